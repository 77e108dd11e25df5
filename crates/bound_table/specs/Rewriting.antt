-- Rewriting by a table of cases.
use Rattle.std.specs.Prelude.{ℕ, zero, suc, cond, List, [], ◌∷◌}
use Rattle.std.specs.Ordering.{is_eq}
use Rattle.bound_expr.specs.model.Bounds.{Bound, Constant, Input, SumOf, ProductOf, MaximumOf, PowerOf, Parts, NoParts}
use Rattle.bound_expr.specs.model.Bounds.{Part}
use Rattle.bound_expr.specs.Views.{list_of}
use Rattle.bound_table.specs.declared.kinds.Kind.{Kind}
use Rattle.bound_table.specs.declared.kinds.Kind.TheVariants.{AsSum, AsProd, AsMax}
use Rattle.bound_table.specs.declared.kinds.Case.{Case}
use Rattle.bound_table.specs.declared.kinds.Case.TheVariants.{Flat, FoldConst, ZeroProduct, Neutral, PowerConst}
use Rattle.bound_table.specs.declared.kinds.Case.TheVariants.{PowerShift, PowerMerge, Distribute, Order, Like}
use Rattle.bound_table.specs.declared.kinds.Case.TheVariants.{Dominate, Few}
use Rattle.bound_table.specs.Kinds.{whole}
use Rattle.bound_table.specs.Comparison.{compared}
use Rattle.bound_table.specs.Folding.{spliced, folded, zeroed, without_neutral, simple}
use Rattle.bound_table.specs.Powers.{evaluated, shifted, powers_merged}
use Rattle.bound_table.specs.Distribution.{distributed}
use Rattle.bound_table.specs.Sorting.{sorted}
use Rattle.bound_table.specs.Likes.{likes_joined}
use Rattle.bound_table.specs.Dominance.{dominant}

-- the result of a case at a node of a kind with these parts
abbrev pub at_parts : Case → Kind → List Bound → Bound
at_parts Flat k ps = whole k (spliced k ps)
at_parts FoldConst k ps = whole k (folded k ps)
at_parts ZeroProduct k ps = zeroed k ps
at_parts Neutral k ps = whole k (without_neutral k ps)
at_parts PowerConst k ps = whole k ps
at_parts PowerShift k ps = whole k ps
at_parts PowerMerge k ps = whole k (powers_merged k ps)
at_parts Distribute k ps = distributed k ps
at_parts Order k ps = whole k (sorted k ps)
at_parts Like k ps = whole k (likes_joined k ps)
at_parts Dominate k ps = whole k (dominant k ps)
at_parts Few k ps = simple k ps

-- the result of a case at a power
abbrev pub at_power : Case → ℕ → Bound → Bound
at_power PowerConst n e = evaluated n e
at_power PowerShift n e = shifted n e
at_power c n e = PowerOf n e

-- the result of a case at a node
unfoldable pub at_node : Case → Bound → Bound
at_node c (SumOf ps) = at_parts c AsSum (list_of ps)
at_node c (ProductOf ps) = at_parts c AsProd (list_of ps)
at_node c (MaximumOf ps) = at_parts c AsMax (list_of ps)
at_node c (PowerOf n e) = at_power c n e
at_node c b = b

-- the cases applied to a node, once each, in order, each to the result of the one before
abbrev pub at_node_all : List Case → Bound → Bound
at_node_all [] b = b
at_node_all (c ∷ cs) b = at_node_all cs (at_node c b)

-- a bound whose parts have been rewritten, each from the leaves up
unfoldable mutual
  pub parts_passed : List Case → Bound → Bound
  parts_passed cs (Constant c) = Constant c
  parts_passed cs (Input i) = Input i
  parts_passed cs (SumOf ps) = SumOf (one_pass_each cs ps)
  parts_passed cs (ProductOf ps) = ProductOf (one_pass_each cs ps)
  parts_passed cs (MaximumOf ps) = MaximumOf (one_pass_each cs ps)
  parts_passed cs (PowerOf c e) = PowerOf c (at_node_all cs (parts_passed cs e))

  pub one_pass_each : List Case → Parts → Parts
  one_pass_each cs NoParts = NoParts
  one_pass_each cs (Part p ps) = Part (at_node_all cs (parts_passed cs p)) (one_pass_each cs ps)

-- a pass: the bound is built again from the leaves up, and the cases are applied at each node
abbrev pub one_pass : List Case → Bound → Bound
one_pass cs b = at_node_all cs (parts_passed cs b)

-- passes until one changes nothing, at most n
unfoldable pub passes_until_same : ℕ → List Case → Bound → Bound
passes_until_same zero cs b = b
passes_until_same (suc n) cs b = cond (is_eq (compared (one_pass cs b) b)) b (passes_until_same n cs (one_pass cs b))

-- the most passes
abbrev pub pass_limit : ℕ
pass_limit = 16

-- passes until one changes nothing, at most sixteen
unfoldable pub simplified : List Case → Bound → Bound
simplified cs b = passes_until_same pass_limit cs b
