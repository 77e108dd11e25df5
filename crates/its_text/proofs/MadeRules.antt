-- Rules with one more are within the limits exactly if those before, its head and its guard are: names and symbols that
-- come later don't change those before.
use Rattle.std.proofs.Common.{◌≤◌, ◌↔◌, length, Some, None, sym, ◌∙◌, arith}
use Rattle.expr_text.specs.model.Limits.{variable_limit}
use Rattle.expr_text.specs.Guards.{Atoms}
use Rattle.its_text.specs.Written.{Guard, NoGuard, BehindMark, InSquares}
use Rattle.its_text.specs.Numbering.{term_in, symbols_of, left_names, arrow_names, atoms_of_cost, rule_names}
use Rattle.its_text.specs.GrammarStates.{Headed, rule_with, ruling_with}
use Rattle.its_text.specs.StateNames.{symbols_behind, headed_names}
use Rattle.its_text.specs.Spelling.{IsGuardWithin}
use Rattle.expr_text.proofs.Stability.{extended}
use Rattle.its_text.proofs.ValidRules.{sums_extends, guard_extends, cost_is_read, sums_are_read, no_fewer}
use Rattle.its_text.proofs.ValidPrograms.{comes_there, all_known, all_stay}
use Rattle.its_text.proofs.RoomLaws.{arity_stays, rules_stay, arguments_stay, cost_stays}
use Rattle.its_text.proofs.KeptStates.{IsRulingKept, IsHeadedKept}
use Rattle.its_text.proofs.GuardTurns.{AreEnded}

-- a rule with a guard is within the limits
abbrev pub HasGuard : Headed → Guard → Type 0
HasGuard h guard =
    (length (rule_names (rule_with h guard)) ≤ variable_limit)
    × IsGuardWithin (atoms_of_cost h.led.cost) (rule_names (rule_with h guard)) guard

module _ (h : Headed) (guard : Guard) where
  -- The rules with this one are within the limits exactly if its head and its guard are.
  pub rule_made : IsRulingKept (ruling_with h guard) ↔ (IsHeadedKept h × HasGuard h guard)
  rule_made =
      let l = h.led in
      let t = term_in h.target in
      let rules = l.ruling.rules in
      let before = symbols_of rules in
      let behind = symbols_behind l in
      let known = all_known rules in
      let left = rules_stay before l.left.name (length l.left.arguments) rules known in
      let right =
      rules_stay behind t.name (length t.arguments) rules
      (all_stay before l.left.name (length l.left.arguments) rules known) in
      let arity =
      arity_stays behind l.left.name t.name (length t.arguments)
      (comes_there before l.left.name (length l.left.arguments)) in
      let more = guard_extends (headed_names h) guard in
      let named =
      arguments_stay (headed_names h) (rule_names (rule_with h guard)) more t.arguments
      (sums_are_read (arrow_names l.left l.cost) t.arguments) in
      let fewer = no_fewer (headed_names h) (rule_names (rule_with h guard)) more in
      let arrow = arrow_names l.left l.cost in
      let behind_arrow = sums_extends arrow t.arguments in
      let costed =
      cost_stays arrow (rule_names (rule_with h guard))
      (extended arrow (headed_names h) (rule_names (rule_with h guard)) behind_arrow more) l.cost
      (cost_is_read (left_names l.left) l.cost) in
      let fewest = no_fewer arrow (headed_names h) behind_arrow in (
        λ k.
            let r = k.rules.0 in
            let w = k.within.0 in
            let few = k.few in (
              (
                record {
                  led =
                      record {
                        source = (
                          (
                            (
                              record {
                                sections = k.sections;
                                once = k.once;
                                few = omega (arith, few);
                                rules = left.1 (right.1 k.rules.1);
                                within = k.within.1;
                              },
                              omega (arith, few),
                            ),
                            (r.left, w.left),
                          ),
                          sym arity ∙ r.source_arity,
                        );
                        cost = costed.1 w.cost;
                        variables = (let most = w.variables in omega (arith, most, fewer, fewest));
                      };
                  symbol = r.target;
                  few = w.right;
                  arguments = named.1 w.arguments;
                  variables = (let most = w.variables in omega (arith, most, fewer));
                },
                r.target_arity,
              ),
              (w.variables, w.guard),
            ),
        λ k.
            let head = k.0.0 in
            let source = head.led.source in
            let left_term = source.0.1 in
            let ruling = source.0.0 in
            record {
              sections = ruling.0.sections;
              once = ruling.0.once;
              few = (let few = ruling.1 in omega (arith, few));
              rules = (
                record {
                  left = left_term.0;
                  target = head.symbol;
                  source_arity = arity ∙ source.1;
                  target_arity = k.0.1;
                },
                right.0 (left.0 ruling.0.rules),
              );
              within = (
                record {
                  left = left_term.1;
                  right = head.few;
                  variables = k.1.0;
                  arguments = named.0 head.arguments;
                  cost = costed.0 head.led.cost;
                  guard = k.1.1;
                },
                ruling.0.within,
              );
            },
      )

  -- A rule whose guard has no atoms is within the limits exactly if its head is.
  pub empty_made : (IsHeadedKept h → HasGuard h guard) → IsRulingKept (ruling_with h guard) ↔ IsHeadedKept h
  empty_made has = (λ k. (rule_made.0 k).0, λ k. rule_made.1 (k, has k))

-- a rule without a guard is within the limits exactly if its head is
pub no_guard : (h : Headed) → IsRulingKept (ruling_with h NoGuard) ↔ IsHeadedKept h
no_guard h = empty_made h NoGuard (λ k. (k.0.variables, tt))

-- a rule with no atom after `:|:` is within the limits exactly if its head is
pub no_marked : (h : Headed) → IsRulingKept (ruling_with h (BehindMark None)) ↔ IsHeadedKept h
no_marked h = empty_made h (BehindMark None) (λ k. (k.0.variables, tt))

-- a rule with nothing in square brackets is within the limits exactly if its head is
pub no_squared : (h : Headed) → IsRulingKept (ruling_with h (InSquares None)) ↔ IsHeadedKept h
no_squared h = empty_made h (InSquares None) (λ k. (k.0.variables, tt))

-- a rule whose guard has atoms is within the limits exactly if its head and its atoms are
pub marked : (h : Headed) (atoms : Atoms) → IsRulingKept (ruling_with h (BehindMark (Some atoms)))
    ↔ (IsHeadedKept h × AreEnded h.led.cost (headed_names h) atoms)
marked h atoms =
    let made = rule_made h (BehindMark (Some atoms)) in (
      λ k. let x = made.0 k in (x.0, record { few = x.1.1.0; within = x.1.1.1; variables = x.1.0 }),
      λ k. made.1 (k.0, (k.1.variables, (k.1.few, k.1.within))),
    )

-- a rule with atoms in square brackets is within the limits exactly if its head and these are
pub in_squares : (h : Headed) (atoms : Atoms) → IsRulingKept (ruling_with h (InSquares (Some atoms)))
    ↔ (IsHeadedKept h × AreEnded h.led.cost (headed_names h) atoms)
in_squares h atoms =
    let made = rule_made h (InSquares (Some atoms)) in (
      λ k. let x = made.0 k in (x.0, record { few = x.1.1.0; within = x.1.1.1; variables = x.1.0 }),
      λ k. made.1 (k.0, (k.1.variables, (k.1.few, k.1.within))),
    )
