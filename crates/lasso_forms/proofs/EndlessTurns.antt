-- The rules of a turn that can be repeated occur without end.
use Rattle.std.proofs.Common.{◌≡◌, ℕ, ◌≤◌, List, [], ◌∷◌, ◌++◌, length, ℤ, Some, refl, subst, arith, inl}
use Rattle.std.proofs.lemmas.List.{reverse-append}
use Rattle.std.specs.List.{All}
use Rattle.its_model.specs.model.Programs.{Program, Rule, rule_at}
use Rattle.its_model.specs.model.Runs.{Config, Step, IsRun}
use Rattle.its_model.specs.model.Bounds.{Bound}
use Rattle.its_model.specs.model.Facts.{HoldsTime, HoldsTotal}
use Rattle.lassos.specs.Lassos.{Endless, IsUsed, GoesOnFor}
use Rattle.lassos.specs.Laws.{LassosAreEndless, EndlessRulesHaveNoTime}
use Rattle.run_replay.proofs.RuleNumbers.{rule_some}
use Rattle.lasso_check.specs.Checks.{Turn}
use Rattle.lasso_check.specs.CheckLaws.{ListedRulesAreEndless}
use Rattle.lasso_check.specs.Lassos.{stem_back, turn_back}
use Rattle.lasso_check.proofs.Endlessness.{goes_round}
use Rattle.moving_check.specs.Findings.{Moving}
use Rattle.moving_check.specs.Laws.{MovingTurnsAreEndless}
use Rattle.lasso_forms.specs.Files.{LassoFile, FirstForm, SecondForm, lasso_in}
use Rattle.lasso_forms.specs.Laws.{EndlessTurnsHaveNoTime}
use Rattle.lasso_forms.specs.Turns.{EndlessTurn, Back, On, rules_in, IsEndlessTurn, CanRepeat}

-- some rule of a turn with a step is a rule of the program
rule_used : (p : Program) (start : List ℤ) (turn stem : List Step) (at : Config) → 1 ≤ length turn → IsRun p start (turn ++ stem) at
    → (t : ℕ) × (r : Rule) × IsUsed t turn × (rule_at p t ≡ Some r)
rule_used p start [] stem at some run = absurd (omega (arith, some))
rule_used p start (s ∷ turn) stem at some (b, run, step) = (s.rule, step.rule, inl refl, step.numbered)

module _ (back : ListedRulesAreEndless) (on : MovingTurnsAreEndless) (endless : LassosAreEndless)
    (no_time : EndlessRulesHaveNoTime) (p : Program) where
  rules_endless : (f : LassoFile) (t : EndlessTurn) → IsEndlessTurn p f t → All (Endless p (lasso_in f).start) (rules_in t)
  rules_endless (FirstForm l) (Back t) h = back.endless p l t h
  rules_endless (FirstForm l) (On m) h = absurd h
  rules_endless (SecondForm l) (Back t) h = absurd h
  rules_endless (SecondForm l) (On m) h = on.endless p l m h

  rules_untimed : (f : LassoFile) (t : EndlessTurn) → IsEndlessTurn p f t
      → All (λ rule. (bound : Bound) → ¬ (HoldsTime p rule bound)) (rules_in t)
  rules_untimed (FirstForm l) (Back t) h = back.no_time p l t h
  rules_untimed (FirstForm l) (On m) h = absurd h
  rules_untimed (SecondForm l) (Back t) h = absurd h
  rules_untimed (SecondForm l) (On m) h = on.no_time p l m h

  some_untimed : (f : LassoFile) → CanRepeat p f
      → (rule : ℕ) × (1 ≤ rule) × (rule ≤ length p.rules) × ((bound : Bound) → ¬ (HoldsTime p rule bound))
  some_untimed (FirstForm l) round =
      let lasso = goes_round p l round in
      let used = rule_used p l.start (turn_back l) (stem_back l) round.at lasso.nonempty lasso.whole in
      let within = rule_some p used.0 used.1 used.3 in (
        used.0,
        within.0,
        within.1,
        no_time.each p l.start used.0
            (endless.round p l.start (stem_back l) (turn_back l) round.at lasso used.0 used.2),
      )
  some_untimed (SecondForm l) (m, found) =
      let moves = on.goes_on p l m found in
      let whole = subst (λ (ss : List Step). IsRun p l.start ss found.behind) (reverse-append l.stem l.turn) found.whole.run in
      let used = rule_used p l.start (turn_back l) (stem_back l) found.behind moves.1.nonempty whole in
      let within = rule_some p used.0 used.1 used.3 in (
        used.0,
        within.0,
        within.1,
        no_time.each p l.start used.0
            (endless.on p l.start (stem_back l) (turn_back l) moves.0 m.differences moves.1 used.0 used.2),
      )

pub turns_untimed : ListedRulesAreEndless → MovingTurnsAreEndless → LassosAreEndless → EndlessRulesHaveNoTime
    → EndlessTurnsHaveNoTime
turns_untimed back on endless no_time = record {
  endless = λ p f t h. rules_endless back on endless no_time p f t h;
  no_time = λ p f t h. rules_untimed back on endless no_time p f t h;
  some_rule = λ p f can. some_untimed back on endless no_time p f can;
  moves_on = moves_on;
  no_total = no_total;
}
  where
    moves_on : (p : Program) (f : LassoFile) (m : Moving) → IsEndlessTurn p f (On m)
        → (at : Config) × GoesOnFor p (lasso_in f).start (stem_back (lasso_in f)) (turn_back (lasso_in f)) at m.differences
    moves_on p (FirstForm l) m h = absurd h
    moves_on p (SecondForm l) m h = on.goes_on p l m h

    no_total : (p : Program) (f : LassoFile) (t : Turn) → IsEndlessTurn p f (Back t) → 1 ≤ t.cost
        → (bound : Bound) → ¬ (HoldsTotal p bound)
    no_total p (FirstForm l) t h costs = back.no_total p l t h costs
    no_total p (SecondForm l) t h costs = absurd h
