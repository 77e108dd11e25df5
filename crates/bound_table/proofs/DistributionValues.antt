-- Multiplying a product out keeps the value.
use Rattle.std.proofs.Common.{◌≡◌, ℕ, ◌+◌, ◌*◌, Bool, true, false, cond, List, [], ◌∷◌, ◌++◌, refl, ap, sym, ◌∙◌, arith}
use Rattle.bound_expr.specs.model.Bounds.{Bound, Constant, Input, SumOf, ProductOf, MaximumOf, PowerOf, val}
use Rattle.bound_table.specs.declared.kinds.Kind.{Kind}
use Rattle.bound_table.specs.declared.kinds.Kind.TheVariants.{AsSum, AsProd, AsMax}
use Rattle.bound_table.specs.Kinds.{whole}
use Rattle.bound_table.specs.Folding.{parts_of_kind}
use Rattle.bound_table.specs.Distribution.{before_sum, parts_of_sum, after_sum, product_or_single, in_place}
use Rattle.bound_table.specs.Distribution.{each_in_place, multiplied_out, has_sum, is_multiplied_out, distributed}
use Rattle.bound_table.proofs.Products.{parts_at, sum_at, product_at, val_sum-list_of, val_sum-parts_of}
use Rattle.bound_table.proofs.Products.{val_product-parts_of}
use Rattle.bound_table.proofs.CaseValues.{val-whole, parts_at-append, parts_at-spread}

-- a product is the factors before its first sum, times the sum, times those after it
product-split : (ps : List Bound) (m : List ℕ) → has_sum ps ≡ true
    → product_at ps m ≡ product_at (before_sum ps) m * (sum_at (parts_of_sum ps) m * product_at (after_sum ps) m)
product-split [] m has = cc
product-split (SumOf qs ∷ ps) m has =
    ap (λ (v : ℕ). v * product_at ps m) (val_sum-list_of qs m) ∙ omega arith
product-split (Constant c ∷ ps) m has = ap (λ (v : ℕ). c * v) (product-split ps m has) ∙ omega arith
product-split (Input i ∷ ps) m has = ap (λ (v : ℕ). val (Input i) m * v) (product-split ps m has) ∙ omega arith
product-split (ProductOf qs ∷ ps) m has =
    ap (λ (v : ℕ). val (ProductOf qs) m * v) (product-split ps m has) ∙ omega arith
product-split (MaximumOf qs ∷ ps) m has =
    ap (λ (v : ℕ). val (MaximumOf qs) m * v) (product-split ps m has) ∙ omega arith
product-split (PowerOf c e ∷ ps) m has =
    ap (λ (v : ℕ). val (PowerOf c e) m * v) (product-split ps m has) ∙ omega arith

-- factors as a product, or a single one, have the value of their product
val-product_or_single : (fs : List Bound) (m : List ℕ) → val (product_or_single fs) m ≡ product_at fs m
val-product_or_single [] m = refl
val-product_or_single (f ∷ []) m = omega arith
val-product_or_single (f ∷ g ∷ fs) m = val_product-parts_of (f ∷ g ∷ fs) m

-- a part in place of the sum is multiplied by the other factors
val-in_place : (before after : List Bound) (p : Bound) (m : List ℕ)
    → val (in_place before after p) m ≡ product_at before m * (val p m * product_at after m)
val-in_place before after p m =
    val-product_or_single (before ++ (parts_of_kind AsProd p ++ after)) m
    ∙ parts_at-append AsProd before (parts_of_kind AsProd p ++ after) m
    ∙ ap (λ (v : ℕ). product_at before m * v)
    (parts_at-append AsProd (parts_of_kind AsProd p) after m
    ∙ ap (λ (v : ℕ). v * product_at after m) (parts_at-spread AsProd p m))

-- the sum of the products with each part in place of the sum is the product of the sum with the other factors
sum-each_in_place : (before after ps : List Bound) (m : List ℕ)
    → sum_at (each_in_place before after ps) m ≡ product_at before m * (sum_at ps m * product_at after m)
sum-each_in_place before after [] m = omega arith
sum-each_in_place before after (p ∷ ps) m =
    ap (λ (v : ℕ). v + sum_at (each_in_place before after ps) m) (val-in_place before after p m)
    ∙ ap (λ (v : ℕ). product_at before m * (val p m * product_at after m) + v) (sum-each_in_place before after ps m)
    ∙ omega arith

-- multiplying out keeps the value
val-multiplied_out : (ps : List Bound) (m : List ℕ) → has_sum ps ≡ true → val (multiplied_out ps) m ≡ product_at ps m
val-multiplied_out ps m has =
    val_sum-parts_of (each_in_place (before_sum ps) (after_sum ps) (parts_of_sum ps)) m
    ∙ sum-each_in_place (before_sum ps) (after_sum ps) (parts_of_sum ps) m
    ∙ sym (product-split ps m has)

-- a product that is multiplied out has a sum among its factors
pub multiplied_out-has_sum : (ps : List Bound) → is_multiplied_out ps ≡ true → has_sum ps ≡ true
multiplied_out-has_sum ps is = go (has_sum ps) refl
  where
    go : (b : Bool) → has_sum ps ≡ b → has_sum ps ≡ true
    go true has = has
    go false has = cc

-- multiplying out keeps the value where it is done
pub val-distributed : (k : Kind) (ps : List Bound) (m : List ℕ) → val (distributed k ps) m ≡ parts_at k ps m
val-distributed AsSum ps m = val-whole AsSum ps m
val-distributed AsMax ps m = val-whole AsMax ps m
val-distributed AsProd ps m = go (is_multiplied_out ps) refl
  where
    go : (b : Bool) → is_multiplied_out ps ≡ b → val (cond b (multiplied_out ps) (whole AsProd ps)) m ≡ product_at ps m
    go true is = val-multiplied_out ps m (multiplied_out-has_sum ps is)
    go false is = val-whole AsProd ps m
