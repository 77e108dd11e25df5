-- Worked values of guards that multipliers refute, and of guards that they don't.
use Rattle.std.specs.Prelude.{[], ◌∷◌}
use Rattle.refinement.specs.model.Terms.{Variable, Negation}
use Rattle.refinement.specs.model.WorkedRuns.{looping, countdown}
use Rattle.refinement.specs.Sections.{passes, To}
use Rattle.refinement.specs.Obligations.{guard_along, guard_with_failure}
use Rattle.refinement.specs.Worked.{less, split_by_sign, split}
use Rattle.refinement_rows.specs.Certified.{Refutes, IsRefuted, IsCertified}

-- the guards of the looping rule, which needs A between 1 and 9: its rows are A - 1, 9 - A and those of further atoms
pub record GuardsAreRefuted : Type 0 where
  -- with the row -A - 1 >= 0, the first row and that one add up to -2; the second row isn't used, but each row needs a
  -- multiplier
  pub never : Refutes looping (guard_along looping (passes (less (Negation (Variable 0)) 1) ∷ [])) (1 ∷ 0 ∷ 1 ∷ [])
  pub other_row : ¬ (Refutes looping (guard_along looping (passes (less (Negation (Variable 0)) 1) ∷ []))
      (0 ∷ 1 ∷ 1 ∷ []))
  pub short : ¬ (Refutes looping (guard_along looping (passes (less (Negation (Variable 0)) 1) ∷ [])) (1 ∷ 0 ∷ []))
  -- A is at least 0 after the loop: the denial, that its new value A - 1 is below 0, has the row -A >= 0, and A has no
  -- value
  pub fact : Refutes looping (guard_with_failure looping (passes (Variable 0) ∷ []) (Variable 0)) (1 ∷ 0 ∷ 0 ∷ 1 ∷ [])
  -- that A is at least 1 after the loop isn't shown by any multipliers, and the guard of the loop itself isn't refuted
  pub too_strong : ¬ (IsRefuted looping (guard_with_failure looping (passes (Variable 0) ∷ []) (less (Variable 0) 1)))
  pub loop : ¬ (IsRefuted looping (guard_along looping []))

-- the section by the sign of A is certified; with a fact that is too strong by 1 it isn't, by any multipliers
pub record SectionsAreCertified : Type 0 where
  pub by_sign : IsCertified countdown split_by_sign
  pub too_strong : ¬ (IsCertified countdown (split (less (Variable 0) 1) (To 1)))
