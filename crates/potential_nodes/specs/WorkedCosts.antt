-- Facts on costs as signed facts, and which of them hold, worked out by hand on a program that enters a loop and counts
-- A down.
use Rattle.std.specs.Prelude.{◌≡◌, [], ◌∷◌, pos}
use Rattle.potentials.specs.model.Bounds as plain
use Rattle.potentials.specs.model.Facts.{Time, Cost}
use Rattle.potentials.specs.model.WorkedRuns.{countdown}
use Rattle.potentials.specs.model.WorkedCosts.{paying}
use Rattle.signed_bounds.specs.Bounds.{Constant}
use Rattle.potential_nodes.specs.Facts.{SumFact, HoldsSigned}
use Rattle.potential_nodes.specs.PlainFacts.{signed_fact}

-- where entering costs A, and each round B, the signed facts are on the sums of A and of B; without costs they are on
-- the sum of 1, as for times; and for a rule that doesn't exist on the sum of 0
pub record CostsAreWorkedOut : Type 0 where
  pub entering : signed_fact paying (Cost 1 (plain.Constant 5))
      ≡ SumFact (record { rule = 1; form = record { coef = pos 1; vars = 0 ∷ [] } ∷ [] } ∷ []) (Constant 5)
  pub rounds : signed_fact paying (Cost 2 (plain.Constant 5))
      ≡ SumFact (record { rule = 2; form = record { coef = pos 1; vars = 1 ∷ [] } ∷ [] } ∷ []) (Constant 5)
  pub none_written : signed_fact countdown (Cost 2 (plain.Constant 9)) ≡ signed_fact countdown (Time 2 (plain.Constant 9))
  pub no_rule : signed_fact paying (Cost 3 (plain.Constant 5)) ≡ SumFact (record { rule = 3; form = [] } ∷ []) (Constant 5)
  pub entry : signed_fact paying (Cost 0 (plain.Constant 5)) ≡ SumFact (record { rule = 0; form = [] } ∷ []) (Constant 5)
  -- the cost of entering is at most the absolute start value of A, but not always at most 2, or at most that of B; the
  -- cost of the rounds is at most the absolute start value of B, but not always at most 6
  pub entering_holds : HoldsSigned paying (signed_fact paying (Cost 1 (plain.Input 0)))
  pub entering_less : ¬ (HoldsSigned paying (signed_fact paying (Cost 1 (plain.Constant 2))))
  pub entering_by_other : ¬ (HoldsSigned paying (signed_fact paying (Cost 1 (plain.Input 1))))
  pub rounds_hold : HoldsSigned paying (signed_fact paying (Cost 2 (plain.Input 1)))
  pub rounds_less : ¬ (HoldsSigned paying (signed_fact paying (Cost 2 (plain.Constant 6))))
  pub plain_holds : HoldsSigned countdown (signed_fact countdown (Cost 2 (plain.Constant 9)))
  pub plain_less : ¬ (HoldsSigned countdown (signed_fact countdown (Cost 2 (plain.Constant 2))))
