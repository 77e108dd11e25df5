-- Facts over absolute start values as signed facts.
use Rattle.std.specs.Prelude.{ℕ, [], ◌∷◌}
use Rattle.potentials.specs.model.Programs.{Program}
use Rattle.potentials.specs.model.Bounds.{Bound}
use Rattle.potentials.specs.model.Facts.{Fact, Time, Size, Cost, Holds, HoldsCost}
use Rattle.signed_bounds.specs.Inputs.{signed_of_bound}
use Rattle.potential_nodes.specs.Facts.{SignedFact, SumFact, SizeFact, HoldsSigned, once_charge}
use Rattle.potential_nodes.specs.Costs.{cost_charge}

-- the signed fact of a fact: a time becomes the sum of 1 for each step, a cost the sum of the cost of each step, and a
-- size remains a size
abbrev pub signed_fact : Program → Fact → SignedFact
signed_fact p (Time t b) = SumFact (once_charge t ∷ []) (signed_of_bound b)
signed_fact p (Size t i b) = SizeFact t i (signed_of_bound b)
signed_fact p (Cost t b) = SumFact (cost_charge p t ∷ []) (signed_of_bound b)

-- if a fact holds, its signed fact holds
abbrev pub PlainFactsHold : Type 0
PlainFactsHold = (p : Program) (fact : Fact) → Holds p fact → HoldsSigned p (signed_fact p fact)

-- the sum in the signed fact of a cost is the spending that the fact bounds
pub record SignedCostsAreCosts : Type 0 where
  pub each : (p : Program) (t : ℕ) (b : Bound) → HoldsSigned p (signed_fact p (Cost t b)) → HoldsCost p t b
