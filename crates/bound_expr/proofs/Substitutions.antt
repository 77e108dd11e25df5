-- The value of a substitution is the value of the bound at the values of the sizes.
use Rattle.std.proofs.Common.{◌≡◌, ℕ, zero, suc, ◌*◌, ◌^◌, List, [], ◌∷◌, slice_index, slice_index_or, refl, ap, ◌∙◌}
use Rattle.std.proofs.Common.{arith}
use Rattle.model.specs.Bounds.{Bound, Constant, Input, SumOf, ProductOf, MaximumOf, PowerOf, Parts, NoParts, Part, val}
use Rattle.model.specs.Bounds.{val_sum, val_product, val_maximum}
use Rattle.bound_expr.specs.Substitution.{substituted, all_substituted, values_of, SubstitutesValues}

-- the substitution for an input has the value of the size at its position
val-slice_index : (sizes : List Bound) (i : ℕ) (m : List ℕ)
    → val (slice_index_or sizes i (Constant 0)) m ≡ slice_index (values_of sizes m) i
val-slice_index [] i m = refl
val-slice_index (s ∷ sizes) zero m = refl
val-slice_index (s ∷ sizes) (suc i) m = val-slice_index sizes i m

mutual
  -- a bound with sizes substituted for its inputs has the value that it has at the values of the sizes
  pub val-substituted : (b : Bound) (sizes : List Bound) (m : List ℕ)
      → val (substituted b sizes) m ≡ val b (values_of sizes m)
  val-substituted (Constant c) sizes m = refl
  val-substituted (Input i) sizes m = val-slice_index sizes i m
  val-substituted (SumOf bs) sizes m = val_sum-substituted bs sizes m
  val-substituted (ProductOf bs) sizes m = val_product-substituted bs sizes m
  val-substituted (MaximumOf bs) sizes m = val_maximum-substituted bs sizes m
  val-substituted (PowerOf c e) sizes m = ap (λ (v : ℕ). c ^ v) (val-substituted e sizes m)

  -- the value of a sum with sizes substituted for its inputs
  pub val_sum-substituted : (bs : Parts) (sizes : List Bound) (m : List ℕ)
      → val_sum (all_substituted bs sizes) m ≡ val_sum bs (values_of sizes m)
  val_sum-substituted NoParts sizes m = refl
  val_sum-substituted (Part b bs) sizes m = omega (arith, val-substituted b sizes m, val_sum-substituted bs sizes m)

  -- the value of a product with sizes substituted for its inputs
  pub val_product-substituted : (bs : Parts) (sizes : List Bound) (m : List ℕ)
      → val_product (all_substituted bs sizes) m ≡ val_product bs (values_of sizes m)
  val_product-substituted NoParts sizes m = refl
  val_product-substituted (Part b bs) sizes m =
      ap (λ (v : ℕ). v * val_product (all_substituted bs sizes) m) (val-substituted b sizes m)
      ∙ ap (λ (v : ℕ). val b (values_of sizes m) * v) (val_product-substituted bs sizes m)

  -- the value of a maximum with sizes substituted for its inputs
  pub val_maximum-substituted : (bs : Parts) (sizes : List Bound) (m : List ℕ)
      → val_maximum (all_substituted bs sizes) m ≡ val_maximum bs (values_of sizes m)
  val_maximum-substituted NoParts sizes m = refl
  val_maximum-substituted (Part b bs) sizes m =
      omega (arith, val-substituted b sizes m, val_maximum-substituted bs sizes m)

-- a substitution keeps values
pub substitutes_values : (b : Bound) (sizes : List Bound) (outcome : Bound) → outcome ≡ substituted b sizes
    → SubstitutesValues b sizes outcome
substitutes_values b sizes outcome e = record { each = λ m. ap (λ (r : Bound). val r m) e ∙ val-substituted b sizes m }
