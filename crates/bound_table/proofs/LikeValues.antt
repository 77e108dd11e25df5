-- Joining like parts of a sum, and dropping parts of a maximum that are below others, keep the value.
use Rattle.std.proofs.Common.{◌≡◌, ℕ, ◌*◌, ◌≤◌, max, nat_le, Bool, true, false, cond, ◌||◌, List, [], ◌∷◌, ◌++◌}
use Rattle.std.proofs.Common.{refl, ap, sym, ◌∙◌, arith}
use Rattle.std.specs.List.{list_any}
use Rattle.std.specs.Ordering.{is_eq}
use Rattle.std.specs.Cmp.Lexicographic.{slice_cmp}
use Rattle.bound_expr.specs.model.Bounds.{Bound, val, IsBased}
use Rattle.bound_expr.specs.Views.{parts_of, list_of}
use Rattle.bound_expr.specs.Limits.{constant_limit}
use Rattle.bound_expr.proofs.PartLists.{list_of-parts_of}
use Rattle.bound_table.specs.declared.kinds.Kind.{Kind}
use Rattle.bound_table.specs.declared.kinds.Kind.TheVariants.{AsSum, AsProd, AsMax}
use Rattle.bound_table.specs.Terms.{factors_of}
use Rattle.bound_table.specs.Comparison.{compared}
use Rattle.bound_table.specs.Likes.{are_same_factors, is_like, constants_total, times, joined_list, likes_joined}
use Rattle.bound_table.specs.Dominance.{dominant_after, dominant}
use Rattle.bound_table.specs.Below.{below}
use Rattle.bound_table.proofs.Products.{parts_at, sum_at, product_at, maximum_at, val_product-parts_of, val-term}
use Rattle.bound_table.proofs.BelowSound.{below-sound}
use Rattle.bound_table.proofs.TotalOrder.{slice_cmp-compared, all_compared-same, is_eq-Equal}
use Rattle.bound_table.proofs.Each.{Each, Each-append}
use Rattle.bound_table.proofs.PartFacts.{AreTogether}
use Rattle.bound_table.proofs.RunValues.{parts_at-runs_joined}

-- lists of factors that compare as equal in the structural order are equal
same_lists : (fs gs : List Bound) → is_eq (slice_cmp compared fs gs) ≡ true → fs ≡ gs
same_lists fs gs same =
    sym (list_of-parts_of fs)
    ∙ ap list_of
    (all_compared-same (parts_of fs) (parts_of gs) (sym (slice_cmp-compared fs gs) ∙ is_eq-Equal (slice_cmp compared fs gs) same))
    ∙ list_of-parts_of gs

-- lists of factors that the test finds the same are equal
same_factors-lists : (fs gs : List Bound) → are_same_factors fs gs ≡ true → fs ≡ gs
same_factors-lists [] gs same = cc
same_factors-lists (f ∷ fs) gs same = same_lists (f ∷ fs) gs same

-- like parts have the same factors
is_like-factors : (p q : Bound) → is_like p q ≡ true → factors_of p ≡ factors_of q
is_like-factors p q like = same_factors-lists (factors_of p) (factors_of q) like

-- the sum of like parts is the sum of their constants times their factors
alike-sum : (p : Bound) (ps : List Bound) (m : List ℕ) → AreTogether is_like p ps
    → sum_at (p ∷ ps) m ≡ constants_total (p ∷ ps) * product_at (factors_of p) m
alike-sum p [] m alike = omega (arith, val-term p m)
alike-sum p (q ∷ ps) m alike =
    let same = ap (λ (fs : List Bound). product_at fs m) (is_like-factors p q alike.0) in
    omega (arith, val-term p m, alike-sum q ps m alike.1, ap (λ (v : ℕ). constants_total (q ∷ ps) * v) same)

-- the value of a constant times factors is the constant times the product of the factors
val-times : (c : ℕ) (fs : List Bound) (m : List ℕ) → val (times c fs) m ≡ c * product_at fs m
val-times c fs m = ap (λ (v : ℕ). c * v) (val_product-parts_of fs m)

-- the parts that replace a run have the same sum as the run
joined_list-sum : (p : Bound) (ps : List Bound) (m : List ℕ) → AreTogether is_like p ps
    → sum_at (joined_list (p ∷ ps)) m ≡ sum_at (p ∷ ps) m
joined_list-sum p [] m alike = refl
joined_list-sum p (q ∷ qs) m alike = go (nat_le (constants_total (p ∷ q ∷ qs)) constant_limit)
  where
    go : (small : Bool)
        → sum_at (cond small (times (constants_total (p ∷ q ∷ qs)) (factors_of p) ∷ []) (p ∷ q ∷ qs)) m
        ≡ sum_at (p ∷ q ∷ qs) m
    go true = omega (arith, val-times (constants_total (p ∷ q ∷ qs)) (factors_of p) m, alike-sum p (q ∷ qs) m alike)
    go false = refl

-- joining like parts keeps the value
pub parts_at-likes_joined : (k : Kind) (ps : List Bound) (m : List ℕ)
    → parts_at k (likes_joined k ps) m ≡ parts_at k ps m
parts_at-likes_joined AsSum ps m = parts_at-runs_joined AsSum is_like joined_list joined_list-sum ps m
parts_at-likes_joined AsProd ps m = refl
parts_at-likes_joined AsMax ps m = refl

-- a part below one of some parts is no greater than the maximum of them
any-below : (p : Bound) (qs : List Bound) (m : List ℕ) → IsBased p → Each IsBased qs
    → list_any (λ q. below p q) qs ≡ true → val p m ≤ maximum_at qs m
any-below p [] m bp bq any = cc
any-below p (q ∷ qs) m bp bq any = go (below p q) refl any (any-below p qs m bp bq.1)
  where
    go : (b : Bool) → below p q ≡ b → b || list_any (λ q. below p q) qs ≡ true
        → (list_any (λ q. below p q) qs ≡ true → val p m ≤ maximum_at qs m) → val p m ≤ max (val q m) (maximum_at qs m)
    go true is any ih = omega (arith, (below-sound p q bp bq.0 is).each m)
    go false is any ih = omega (arith, ih any)

-- the maximum of two lists joined is the greater of their maximums
maximum_at-append : (ps qs : List Bound) (m : List ℕ)
    → maximum_at (ps ++ qs) m ≡ max (maximum_at ps m) (maximum_at qs m)
maximum_at-append [] qs m = omega arith
maximum_at-append (p ∷ ps) qs m = omega (arith, maximum_at-append ps qs m)

-- dropping parts that are below others keeps the maximum
maximum_at-dominant_after : (kept ps : List Bound) (m : List ℕ) → Each IsBased kept → Each IsBased ps
    → maximum_at (dominant_after kept ps) m ≡ max (maximum_at kept m) (maximum_at ps m)
maximum_at-dominant_after kept [] m bk bp = omega arith
maximum_at-dominant_after kept (p ∷ ps) m bk bp =
    go (list_any (λ q. below p q) (kept ++ ps)) refl
    (maximum_at-dominant_after kept ps m bk bp.1)
    (maximum_at-dominant_after (kept ++ p ∷ []) ps m (Each-append IsBased kept (p ∷ []) bk (bp.0, tt)) bp.1)
  where
    go : (b : Bool) → list_any (λ q. below p q) (kept ++ ps) ≡ b
        → maximum_at (dominant_after kept ps) m ≡ max (maximum_at kept m) (maximum_at ps m)
        → maximum_at (dominant_after (kept ++ p ∷ []) ps) m ≡ max (maximum_at (kept ++ p ∷ []) m) (maximum_at ps m)
        → maximum_at (cond b (dominant_after kept ps) (dominant_after (kept ++ p ∷ []) ps)) m
        ≡ max (maximum_at kept m) (max (val p m) (maximum_at ps m))
    go true is ih ih' =
        omega (arith, ih, any-below p (kept ++ ps) m bp.0 (Each-append IsBased kept ps bk bp.1) is, maximum_at-append kept ps m)
    go false is ih ih' = omega (arith, ih', maximum_at-append kept (p ∷ []) m)

-- the parts of a maximum that aren't dropped have the value of all parts
pub parts_at-dominant : (k : Kind) (ps : List Bound) (m : List ℕ) → Each IsBased ps
    → parts_at k (dominant k ps) m ≡ parts_at k ps m
parts_at-dominant AsSum ps m based = refl
parts_at-dominant AsProd ps m based = refl
parts_at-dominant AsMax ps m based = maximum_at-dominant_after [] ps m tt based ∙ omega arith
