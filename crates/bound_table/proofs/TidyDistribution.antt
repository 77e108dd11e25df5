-- Multiplying out keeps nodes nearly tidy.
use Rattle.std.proofs.Common.{◌≤◌, Bool, true, false, cond, List, [], ◌∷◌, ◌++◌, length, arith}
use Rattle.std.proofs.lemmas.List.{length-append}
use Rattle.bound_expr.specs.model.Bounds.{Bound, Constant, Input, SumOf, ProductOf, MaximumOf, PowerOf, Parts}
use Rattle.bound_expr.specs.Views.{list_of}
use Rattle.bound_expr.specs.Tidy.{IsNoSum, IsTidy}
use Rattle.bound_table.specs.declared.kinds.Kind.{Kind}
use Rattle.bound_table.specs.declared.kinds.Kind.TheVariants.{AsSum, AsProd, AsMax}
use Rattle.bound_table.specs.Kinds.{whole}
use Rattle.bound_table.specs.Folding.{parts_of_kind}
use Rattle.bound_table.specs.Distribution.{before_sum, parts_of_sum, after_sum, product_or_single, in_place}
use Rattle.bound_table.specs.Distribution.{each_in_place, multiplied_out, is_multiplied_out, distributed}
use Rattle.bound_table.proofs.Each.{Each, Each-append}
use Rattle.bound_table.proofs.Kept.{Each-before_sum, Each-parts_of_sum, Each-after_sum}
use Rattle.bound_table.proofs.TidyParts.{IsTidyPart, each-part, IsNearlyTidy, whole-nearly, tidy-spread}
use Rattle.bound_table.proofs.TidyPowers.{length-list_of, spread-some, whole-many}

-- the product of at least two tidy factors is a tidy part of a sum
product-part : (fs : List Bound) → Each (IsTidyPart AsProd) fs → 2 ≤ length fs → IsTidyPart AsSum (product_or_single fs)
product-part [] each many = absurd (omega arith)
product-part (f ∷ []) each many = absurd (omega arith)
product-part (f ∷ g ∷ fs) each many = (whole-many AsProd (f ∷ g ∷ fs) each many, tt)

-- the factors with a tidy part in its place are tidy
placed-tidy : (before after : List Bound) (p : Bound) → Each (IsTidyPart AsProd) before
    → Each (IsTidyPart AsProd) after → IsTidy p
    → Each (IsTidyPart AsProd) (before ++ (parts_of_kind AsProd p ++ after))
placed-tidy before after p b a tidy =
    Each-append (IsTidyPart AsProd) before (parts_of_kind AsProd p ++ after) b
    (Each-append (IsTidyPart AsProd) (parts_of_kind AsProd p) after (tidy-spread AsProd p tidy) a)

-- a part of a tidy sum, alone in the sum's place, is a tidy part
alone-tidy : (p : Bound) → IsTidyPart AsSum p → IsTidyPart AsSum (in_place [] [] p)
alone-tidy (ProductOf qs) tidy =
    product-part (list_of qs ++ []) (placed-tidy [] [] (ProductOf qs) tt tt tidy.0)
    (omega (arith, length-append (list_of qs) [], length-list_of qs, tidy.0.0.0))
alone-tidy (Constant n) tidy = tidy
alone-tidy (Input i) tidy = tidy
alone-tidy (SumOf qs) tidy = tidy
alone-tidy (MaximumOf qs) tidy = tidy
alone-tidy (PowerOf c e) tidy = tidy

-- a part of a tidy sum, in the sum's place among other factors, makes a tidy part
in_place-tidy : (before after : List Bound) (p : Bound) → Each (IsTidyPart AsProd) before
    → Each (IsTidyPart AsProd) after → IsTidyPart AsSum p
    → IsTidyPart AsSum (in_place before after p)
in_place-tidy [] [] p b a tidy = alone-tidy p tidy
in_place-tidy [] (f ∷ fs) p b a tidy =
    product-part (parts_of_kind AsProd p ++ f ∷ fs) (placed-tidy [] (f ∷ fs) p b a tidy.0)
    (omega (arith, length-append (parts_of_kind AsProd p) (f ∷ fs), spread-some AsProd p tidy.0))
in_place-tidy (f ∷ fs) after p b a tidy =
    product-part (f ∷ fs ++ (parts_of_kind AsProd p ++ after)) (placed-tidy (f ∷ fs) after p b a tidy.0)
    (omega (arith, length-append fs (parts_of_kind AsProd p ++ after), length-append (parts_of_kind AsProd p) after, spread-some AsProd p tidy.0))

-- each of the parts in its place is tidy
places-tidy : (before after ps : List Bound) → Each (IsTidyPart AsProd) before → Each (IsTidyPart AsProd) after
    → Each (IsTidyPart AsSum) ps → Each (IsTidyPart AsSum) (each_in_place before after ps)
places-tidy before after [] b a each = tt
places-tidy before after (p ∷ ps) b a each =
    (in_place-tidy before after p b a each.0, places-tidy before after ps b a each.1)

-- the parts of a tidy sum are tidy parts
sum-parts : (qs : Parts) → IsTidyPart AsProd (SumOf qs) → Each (IsTidyPart AsSum) (list_of qs)
sum-parts qs tidy = each-part IsNoSum qs tidy.0.0.1 tidy.0.1

-- a product that may be multiplied out is nearly tidy
pub distributed-nearly : (k : Kind) (ps : List Bound) → Each (IsTidyPart k) ps → IsNearlyTidy (distributed k ps)
distributed-nearly AsSum ps each = whole-nearly AsSum ps each
distributed-nearly AsMax ps each = whole-nearly AsMax ps each
distributed-nearly AsProd ps each = go (is_multiplied_out ps)
  where
    go : (b : Bool) → IsNearlyTidy (cond b (multiplied_out ps) (whole AsProd ps))
    go true =
        whole-nearly AsSum (each_in_place (before_sum ps) (after_sum ps) (parts_of_sum ps))
        (places-tidy (before_sum ps) (after_sum ps) (parts_of_sum ps) (Each-before_sum (IsTidyPart AsProd) ps each)
        (Each-after_sum (IsTidyPart AsProd) ps each)
        (Each-parts_of_sum (IsTidyPart AsProd) (IsTidyPart AsSum) sum-parts ps each))
    go false = whole-nearly AsProd ps each
