use Rattle.std.proofs.Common.{◌≡◌, ℕ, ◌+◌, List, [], ◌∷◌, length, subst, sym, ap, ◌∙◌, arith}
use Rattle.std.proofs.lemmas.List.{length-append}
use Rattle.std.proofs.lemmas.Iterator.Adapters.{YieldsList-from_vec}
use Rattle.std.proofs.lemmas.Iterator.Consumers.{YieldsList-turn}
use Rattle.size_bounds.specs.Tables.{bounds_in}
use Rattle.time_bounds.specs.declared.tried_rules.RuleAttempt.{RuleAttempt}
use Rattle.time_bounds.specs.Questions.{program_in}
use Rattle.time_bounds.specs.TriedRules.{AreTried, IsTried}
use Rattle.time_bounds.proofs.AnsweredQuestions.{kept_read}
use Rattle.time_bounds.proofs.NumberedLists.{each_pushed}
use Rattle.time_bounds.proofs.tried_rules.try_rules.Goals as goal

pub loop-asked-init : goal.loop-asked-init
loop-asked-init c =
    let none = c.new-tries.ensures.items in
    record {
      one_each = ap (λ (xs : List RuleAttempt). length xs) none;
      tried =
          subst (λ (xs : List RuleAttempt). AreTried (program_in c.args.cx.now) (bounds_in c.args.table.now) c.args.cx.now.pivots
          c.args.cx.now.empties.items 1 xs) (sym none) tt;
      parts = c.in_ok-parts.ensures;
    }

pub try_rule-requires-clause-kept : goal.try_rule-requires-clause-kept
try_rule-requires-clause-kept c =
    let gives = c.into_iter-asked-iterator.ensures.into_iter_gives in
    let turn =
    YieldsList-turn (YieldsList-from_vec {s = c.into_iter-asked-iterator.result} c.args.before.items gives.0 (gives.1 ∙ c.args.before.ok.0))
    c.loop-asked.yielded c.loop-asked.asked-iterator c.loop-asked.yielded_by c.next.result c.next.new.self c.in-Some.asked c.in-Some.is
    c.next.ensures.steps in
    kept_read (program_in c.args.cx.now) c.args.cx.now.pivots c.args.cx.now.empties.items c.args.before.items (length c.loop-asked.yielded) _
    c.in-Some.asked c.requires.kept turn.0 turn.1
    (let z : c.len.result + 1 ≡ length c.loop-asked.yielded + 1 = omega (arith, c.len.ensures, c.loop-asked.tries.ok.0, c.loop-asked.invariant.one_each) in z)

pub loop-asked-preserved : goal.loop-asked-preserved
loop-asked-preserved c =
    let p = program_in c.args.cx.now in
    let b = bounds_in c.args.table.now in
    let pushed = c.in_ok-push.ensures.items in
    let tried =
    subst (λ (n : ℕ). IsTried p b c.args.cx.now.pivots c.args.cx.now.empties.items n c.in_ok-try_rule.field-0)
    (let z : c.len.result + 1 ≡ 1 + length c.loop-asked.tries.items = omega (arith, c.len.ensures, c.loop-asked.tries.ok.0) in z)
    c.in_ok-try_rule.ensures.tried in
    record {
      parts = c.in_ok-try_rule.ensures.parts;
      one_each =
          omega (
            arith,
            ap (λ (xs : List RuleAttempt). length xs) pushed,
            length-append c.loop-asked.tries.items (c.in_ok-try_rule.field-0 ∷ []),
            length-append c.loop-asked.yielded (c.in-Some.asked ∷ []),
            c.loop-asked.invariant.one_each,
          );
      tried =
          subst (λ (xs : List RuleAttempt). AreTried p b c.args.cx.now.pivots c.args.cx.now.empties.items 1 xs) (sym pushed)
          (each_pushed (IsTried p b c.args.cx.now.pivots c.args.cx.now.empties.items) 1 c.loop-asked.tries.items c.in_ok-try_rule.field-0
          c.loop-asked.invariant.tried tried);
    }
