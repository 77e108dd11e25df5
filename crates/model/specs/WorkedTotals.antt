-- Worked values of bounds on the cost of all steps of a run together: bounds that hold, and bounds that don't.
use Rattle.std.specs.Prelude.{[], ◌∷◌, ℤ, pos, negsuc}
use Rattle.model.specs.Terms.{Literal}
use Rattle.model.specs.Programs.{Program}
use Rattle.model.specs.Bounds.{Constant, Input, SumOf}
use Rattle.model.specs.Facts.{HoldsTotal, HoldsLength}
use Rattle.model.specs.Worked.{two_parts}
use Rattle.model.specs.WorkedRuns.{entering, over_two_places, countdown}
use Rattle.model.specs.WorkedCosts.{with_cost, paying}

-- the program of the rule l0(A, B) -> l1(A, B) alone, with this cost
abbrev pub entry_at_cost : ℤ → Program
entry_at_cost cost = over_two_places (with_cost (Literal cost) entering ∷ [])

-- bounds on the cost of all steps: of the program with costs, the sum of the absolute values of A and B; of one step
-- with cost 5, 5; of one with cost -1, 0; without costs, the number of steps
pub record TotalsHold : Type 0 where
  pub both_inputs : HoldsTotal paying (SumOf (two_parts (Input 0) (Input 1)))
  pub fixed : HoldsTotal (entry_at_cost (pos 5)) (Constant 5)
  pub negative : HoldsTotal (entry_at_cost (negsuc 0)) (Constant 0)
  pub plain : HoldsTotal countdown (Constant 10)
  -- bounds that don't hold: one of the two absolute values alone, 4 for a step with cost 5, and 9 for ten steps with
  -- cost 1 each
  pub first_alone : ¬ (HoldsTotal paying (Input 0))
  pub second_alone : ¬ (HoldsTotal paying (Input 1))
  pub fixed_less : ¬ (HoldsTotal (entry_at_cost (pos 5)) (Constant 4))
  pub plain_less : ¬ (HoldsTotal countdown (Constant 9))
  -- a bound on the number of steps needn't bound their cost, and conversely
  pub paying_steps : HoldsLength paying (Constant 10)
  pub paying_by_steps : ¬ (HoldsTotal paying (Constant 10))
  pub fixed_step : HoldsLength (entry_at_cost (pos 5)) (Constant 1)
  pub fixed_by_step : ¬ (HoldsTotal (entry_at_cost (pos 5)) (Constant 1))
  pub negative_step : ¬ (HoldsLength (entry_at_cost (negsuc 0)) (Constant 0))
