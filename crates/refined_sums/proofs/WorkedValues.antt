-- Sums, greatest values and charges over copies; and what simulates and what doesn't.
use Rattle.std.proofs.Common.{◌≡◌, ◌≤◌, ◌∙◌, ℕ, List, [], ◌∷◌, map, Some, refl, sym, ap, subst, arith}
use Rattle.std.specs.Prelude.{pos, ⊤}
use Rattle.std.proofs.lemmas.List.Elements.{All-nil}
use Rattle.model.specs.Programs.{Rule, rule_at}
use Rattle.model.specs.Runs.{Step}
use Rattle.model.specs.Worked.{by_rule}
use Rattle.model.specs.WorkedRuns.{both, countdown, entry_alone, looping}
use Rattle.model.proofs.Cases.{none_some, some_same}
use Rattle.model.proofs.WorkedRuns.{runs_are_runs}
use Rattle.refinement.specs.Laws.{same_numbers}
use Rattle.refinement.specs.Lifted.{AllRunsLift, AreCopies}
use Rattle.refinement.specs.Simulation.{HasRuleBelow, Simulates, step_below}
use Rattle.potentials.specs.Sums.{HoldsSum, once}
use Rattle.refined_sums.specs.Copies.{at_rule}
use Rattle.refined_sums.specs.Laws.{SumsAndPeaksAreKept}
use Rattle.refined_sums.specs.Worked.{SumsAreKeptOrNot, SumsAreWorkedOut, countdown_by_2, looping_by_2}
use Rattle.refined_sums.proofs.SumsKept.{sums_kept}

-- the values that were worked out are those of the definitions
pub sums_are_worked_out : SumsAreWorkedOut
sums_are_worked_out = record {
  sum = refl;
  no_sum = refl;
  greatest = refl;
  nothing_greatest = refl;
  step_below = refl;
  at_it = refl;
  at_other = refl;
  charged = refl;
}

-- each rule is a copy of itself, and each run lifts to itself
own_copy : (t : ℕ) (r : Rule) → rule_at countdown t ≡ Some r → HasRuleBelow countdown same_numbers t r
own_copy t r there = record {
  rule = r;
  numbered = there;
  copies = record { left = refl; free = refl; updates = refl; cost = refl; source = refl; target = refl };
}

own_steps : (steps : List Step) → map (step_below same_numbers) steps ≡ steps
own_steps [] = refl
own_steps (s ∷ earlier) = ap (λ (xs : List Step). s ∷ xs) (own_steps earlier)

own_runs : AllRunsLift countdown countdown same_numbers (λ c. ⊤)
own_runs = record {
  each = λ start steps c run. record {
    above = steps;
    end = c;
    run = run;
    steps_below = own_steps steps;
    end_below = refl;
    facts = tt;
  };
}

-- the looping rule that subtracts 2 has no rule below it
other_update : Simulates countdown_by_2 countdown same_numbers (λ c. ⊤) → ⊥
other_update h =
    let below = h.copies 2 looping_by_2 refl in
    let same : looping.updates ≡ looping_by_2.updates =
    ap (λ (r : Rule). r.updates) (some_same looping below.rule below.numbered) ∙ sym below.copies.updates in
    cc

-- the program of the entering rule alone has no copy of the looping rule, so its sums would bound three rounds by 0
no_copies : AreCopies entry_alone same_numbers 2 []
no_copies = record {
  each = λ t r there same. absurd (none_some r (subst (λ n. rule_at entry_alone n ≡ Some r) same there));
}

without_rule : SumsAndPeaksAreKept countdown entry_alone same_numbers → ⊥
without_rule h =
    let none = h.sums 2 [] once (λ t start. 0) no_copies (All-nil (λ t. HoldsSum entry_alone (at_rule t (λ u env. 1))
    (λ start. 0))) in
    let three : 3 ≤ 0 = none.each (both (pos 3) (pos 7))
    (by_rule 2 ∷ by_rule 2 ∷ by_rule 2 ∷ by_rule 1 ∷ []) _ runs_are_runs.four_steps in
    omega (arith, three)

-- what keeps sums and what doesn't
pub sums_are_kept_or_not : SumsAreKeptOrNot
sums_are_kept_or_not = record {
  itself = sums_kept countdown countdown same_numbers own_copy (λ c. ⊤) own_runs;
  other_update = other_update;
  without_rule = without_rule;
}
