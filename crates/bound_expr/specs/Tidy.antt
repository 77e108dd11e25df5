-- When a bound is tidy.
use Rattle.std.specs.Prelude.{ℕ, ◌+◌, ◌≤◌, ⊤}
use Rattle.model.specs.Bounds.{Bound, SumOf, ProductOf, MaximumOf, Parts, NoParts, Part}
use Rattle.model.specs.Bounds.{EachNode, EachNodeOfAll}
use Rattle.bound_expr.specs.Numbers.{IsTidyNumber}

-- the number of parts
abbrev pub part_count : Parts → ℕ
part_count NoParts = 0
part_count (Part b bs) = 1 + part_count bs

-- the bound is no sum
abbrev pub IsNoSum : Bound → Type 0
IsNoSum (SumOf bs) = ⊥
IsNoSum _ = ⊤

-- the bound is no product
abbrev pub IsNoProduct : Bound → Type 0
IsNoProduct (ProductOf bs) = ⊥
IsNoProduct _ = ⊤

-- the bound is no maximum
abbrev pub IsNoMaximum : Bound → Type 0
IsNoMaximum (MaximumOf bs) = ⊥
IsNoMaximum _ = ⊤

-- a fact holds of each part
abbrev pub EachPart : (Bound → Type 0) → Parts → Type 0
EachPart P NoParts = ⊤
EachPart P (Part b bs) = P b × EachPart P bs

-- a sum, product or maximum has at least two parts and none of its own kind directly in it; another node has tidy
-- numbers
abbrev pub IsTidyNode : Bound → Type 0
IsTidyNode (SumOf bs) = (2 ≤ part_count bs) × EachPart IsNoSum bs
IsTidyNode (ProductOf bs) = (2 ≤ part_count bs) × EachPart IsNoProduct bs
IsTidyNode (MaximumOf bs) = (2 ≤ part_count bs) × EachPart IsNoMaximum bs
IsTidyNode b = IsTidyNumber b

-- each sum, product and maximum has at least two parts and none of its own kind directly in it, bases are at least 2,
-- and constants are at most 2^127 - 1
abbrev pub IsTidy : Bound → Type 0
IsTidy b = EachNode IsTidyNode b

-- each of the parts is tidy
abbrev pub AreTidy : Parts → Type 0
AreTidy bs = EachNodeOfAll IsTidyNode bs
