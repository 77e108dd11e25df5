-- The case that multiplies a product out over a sum among its factors.
use Rattle.std.specs.Prelude.{◌≡◌, ℕ, ◌*◌, nat_le, ◌&&◌, length, cond, Bool, true, List, [], ◌∷◌, ◌++◌}
use Rattle.std.specs.List.{list_any}
use Rattle.bound_expr.specs.model.Bounds.{Bound, SumOf}
use Rattle.bound_expr.specs.Views.{list_of}
use Rattle.bound_expr.specs.Limits.{node_limit}
use Rattle.bound_expr.specs.Kinds.{is_sum}
use Rattle.bound_expr.specs.Measure.{node_count}
use Rattle.bound_table.specs.declared.kinds.Kind.{Kind}
use Rattle.bound_table.specs.declared.kinds.Kind.TheVariants.{AsSum, AsProd}
use Rattle.bound_table.specs.Kinds.{whole}
use Rattle.bound_table.specs.Folding.{parts_of_kind}

-- the maximum product of the numbers of parts of the sums among the factors
abbrev pub width_limit : ℕ
width_limit = 64

-- the number of parts of a sum; 1 for any other factor
abbrev pub width : Bound → ℕ
width (SumOf ps) = length (list_of ps)
width _ = 1

-- the product of the numbers of parts of all the sums among the factors
abbrev pub all_widths : List Bound → ℕ
all_widths [] = 1
all_widths (p ∷ ps) = width p * all_widths ps

-- the factors before the first sum
abbrev pub before_sum : List Bound → List Bound
before_sum [] = []
before_sum (SumOf qs ∷ ps) = []
before_sum (p ∷ ps) = p ∷ before_sum ps

-- the parts of the first sum
abbrev pub parts_of_sum : List Bound → List Bound
parts_of_sum [] = []
parts_of_sum (SumOf qs ∷ ps) = list_of qs
parts_of_sum (p ∷ ps) = parts_of_sum ps

-- the factors after the first sum
abbrev pub after_sum : List Bound → List Bound
after_sum [] = []
after_sum (SumOf qs ∷ ps) = ps
after_sum (p ∷ ps) = after_sum ps

-- factors as a product, a single one by itself
abbrev pub product_or_single : List Bound → Bound
product_or_single (f ∷ []) = f
product_or_single fs = whole AsProd fs

-- the product with a part in its place between other factors, a product spliced
abbrev pub in_place : List Bound → List Bound → Bound → Bound
in_place before after p = product_or_single (before ++ (parts_of_kind AsProd p ++ after))

-- each of the parts in that place
abbrev pub each_in_place : List Bound → List Bound → List Bound → List Bound
each_in_place before after [] = []
each_in_place before after (p ∷ ps) = in_place before after p ∷ each_in_place before after ps

-- the sum, over the parts of the first sum, of the product with that part in its place
abbrev pub multiplied_out : List Bound → Bound
multiplied_out ps = whole AsSum (each_in_place (before_sum ps) (after_sum ps) (parts_of_sum ps))

-- a sum is among the factors
abbrev pub has_sum : List Bound → Bool
has_sum ps = list_any is_sum ps

-- a product is multiplied out: it has a sum among its factors, the numbers of parts of all of these multiply to at most
-- 64, and the outcome has at most 4,096 nodes
abbrev pub is_multiplied_out : List Bound → Bool
is_multiplied_out ps =
    has_sum ps && nat_le (all_widths ps) width_limit && nat_le (node_count (multiplied_out ps)) node_limit

-- a product multiplied out where it is one; any other node unchanged
abbrev pub distributed : Kind → List Bound → Bound
distributed AsProd ps = cond (is_multiplied_out ps) (multiplied_out ps) (whole AsProd ps)
distributed k ps = whole k ps

-- a product has a sum among its factors, the first one with these parts between these other factors
pub record IsSplit (all before parts after : List Bound) : Type 0 where
  pub has : has_sum all ≡ true
  pub before_is : before ≡ before_sum all
  pub parts_are : parts ≡ parts_of_sum all
  pub after_is : after ≡ after_sum all
