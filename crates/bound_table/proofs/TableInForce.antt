-- The properties that the table in force keeps.
use Rattle.std.proofs.Common.{[], ◌∷◌, refl}
use Rattle.bound_expr.specs.model.Bounds.{Bound, IsBased}
use Rattle.bound_expr.specs.Numbers.{HasTidyNumbers}
use Rattle.bound_expr.specs.Tidy.{IsTidy}
use Rattle.bound_table.specs.declared.kinds.Case.TheVariants.{FoldConst, ZeroProduct, Neutral, PowerConst}
use Rattle.bound_table.specs.declared.kinds.Case.TheVariants.{PowerShift, PowerMerge, Distribute, Order, Like}
use Rattle.bound_table.specs.declared.kinds.Case.TheVariants.{Dominate}
use Rattle.bound_table.specs.Laws.{HasValueOf, ReadsNoMore, KeepsNumbers, IsTidying}
use Rattle.bound_table.specs.InForce.{cases_in_force, rewritten}
use Rattle.bound_table.proofs.Values.{simplified-value}
use Rattle.bound_table.proofs.NumberFacts.{simplified-reads, simplified-numbers}
use Rattle.bound_table.proofs.TidyCases.{simplified-tidy}

-- the table begins with Flat and ends with Few
pub in_force-tidying : IsTidying cases_in_force
in_force-tidying = record {
  between =
      FoldConst ∷ ZeroProduct ∷ Neutral ∷ PowerConst ∷ PowerShift ∷ PowerMerge ∷ Distribute ∷ Order ∷ Like ∷ Dominate
      ∷ [];
  is = refl;
}

-- rewriting by the table in force keeps the value
pub rewritten-value : (b : Bound) → IsBased b → HasValueOf (rewritten b) b
unfolding rewritten
rewritten-value b based = simplified-value cases_in_force b (rewritten b) refl based

-- rewriting by the table in force keeps the properties of the numbers
pub rewritten-numbers : (b : Bound) → KeepsNumbers (rewritten b) b
unfolding rewritten
rewritten-numbers b = simplified-numbers cases_in_force b (rewritten b) refl

-- a bound rewritten by the table in force reads no further input
pub rewritten-reads : (b : Bound) → ReadsNoMore (rewritten b) b
unfolding rewritten
rewritten-reads b = simplified-reads cases_in_force b (rewritten b) refl

-- a bound rewritten by the table in force is tidy
pub rewritten-tidy : (b : Bound) → HasTidyNumbers b → IsTidy (rewritten b)
unfolding rewritten
rewritten-tidy b has = simplified-tidy cases_in_force b (rewritten b) refl in_force-tidying has
