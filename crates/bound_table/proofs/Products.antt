-- Values of lists of parts: sums, products and maximum values, and a part as a constant times factors.
use Rattle.std.proofs.Common.{◌≡◌, ℕ, ◌+◌, ◌*◌, max, List, [], ◌∷◌, refl, ap, ◌∙◌, arith}
use Rattle.bound_expr.specs.model.Bounds.{Bound, Constant, Input, SumOf, ProductOf, MaximumOf, PowerOf, Parts, NoParts}
use Rattle.bound_expr.specs.model.Bounds.{Part, val}
use Rattle.bound_expr.specs.model.Bounds.{val_sum, val_product, val_maximum}
use Rattle.bound_expr.specs.Views.{parts_of, list_of}
use Rattle.bound_table.specs.declared.kinds.Kind.{Kind}
use Rattle.bound_table.specs.declared.kinds.Kind.TheVariants.{AsSum, AsProd, AsMax}
use Rattle.bound_table.specs.Kinds.{unit_of, joined}
use Rattle.bound_table.specs.Terms.{constant_of, factors_of, leading_constant, after_constant}

-- the values of parts joined as the kind joins them
abbrev pub parts_at : Kind → List Bound → List ℕ → ℕ
parts_at k [] m = unit_of k
parts_at k (p ∷ ps) m = joined k (val p m) (parts_at k ps m)

-- the sum of a list of bounds at m
abbrev pub sum_at : List Bound → List ℕ → ℕ
sum_at ps m = parts_at AsSum ps m

-- the product of a list of bounds at m
abbrev pub product_at : List Bound → List ℕ → ℕ
product_at ps m = parts_at AsProd ps m

-- the maximum of a list of bounds at m
abbrev pub maximum_at : List Bound → List ℕ → ℕ
maximum_at ps m = parts_at AsMax ps m

-- the value of a sum of parts is that of their list
pub val_sum-list_of : (ps : Parts) (m : List ℕ) → val_sum ps m ≡ sum_at (list_of ps) m
val_sum-list_of NoParts m = refl
val_sum-list_of (Part p ps) m = ap (λ (v : ℕ). val p m + v) (val_sum-list_of ps m)

-- the value of a product of parts is that of their list
pub val_product-list_of : (ps : Parts) (m : List ℕ) → val_product ps m ≡ product_at (list_of ps) m
val_product-list_of NoParts m = refl
val_product-list_of (Part p ps) m = ap (λ (v : ℕ). val p m * v) (val_product-list_of ps m)

-- the value of a maximum of parts is that of their list
pub val_maximum-list_of : (ps : Parts) (m : List ℕ) → val_maximum ps m ≡ maximum_at (list_of ps) m
val_maximum-list_of NoParts m = refl
val_maximum-list_of (Part p ps) m = ap (λ (v : ℕ). max (val p m) v) (val_maximum-list_of ps m)

-- the value of a sum of parts made from a list is that of the list
pub val_sum-parts_of : (ps : List Bound) (m : List ℕ) → val_sum (parts_of ps) m ≡ sum_at ps m
val_sum-parts_of [] m = refl
val_sum-parts_of (p ∷ ps) m = ap (λ (v : ℕ). val p m + v) (val_sum-parts_of ps m)

-- the value of a product of parts made from a list is that of the list
pub val_product-parts_of : (ps : List Bound) (m : List ℕ) → val_product (parts_of ps) m ≡ product_at ps m
val_product-parts_of [] m = refl
val_product-parts_of (p ∷ ps) m = ap (λ (v : ℕ). val p m * v) (val_product-parts_of ps m)

-- the value of a maximum of parts made from a list is that of the list
pub val_maximum-parts_of : (ps : List Bound) (m : List ℕ) → val_maximum (parts_of ps) m ≡ maximum_at ps m
val_maximum-parts_of [] m = refl
val_maximum-parts_of (p ∷ ps) m = ap (λ (v : ℕ). max (val p m) v) (val_maximum-parts_of ps m)

-- a list of factors is its leading constant times the rest
leading-after : (ps : List Bound) (m : List ℕ)
    → product_at ps m ≡ leading_constant ps * product_at (after_constant ps) m
leading-after [] m = refl
leading-after (Constant c ∷ ps) m = refl
leading-after (Input i ∷ ps) m = omega arith
leading-after (SumOf qs ∷ ps) m = omega arith
leading-after (ProductOf qs ∷ ps) m = omega arith
leading-after (MaximumOf qs ∷ ps) m = omega arith
leading-after (PowerOf c e ∷ ps) m = omega arith

-- a part is its constant times its factors
pub val-term : (p : Bound) (m : List ℕ) → val p m ≡ constant_of p * product_at (factors_of p) m
val-term (Constant c) m = omega arith
val-term (Input i) m = omega arith
val-term (SumOf ps) m = omega arith
val-term (ProductOf ps) m = val_product-list_of ps m ∙ leading-after (list_of ps) m
val-term (MaximumOf ps) m = omega arith
val-term (PowerOf c e) m = omega arith
