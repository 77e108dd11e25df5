-- Bounds over absolute values keep their value as signed bounds.
use Rattle.std.proofs.Common.{◌≡◌, ℕ, suc, zero, ◌+◌, ◌*◌, ◌^◌, max, List, [], ◌∷◌, refl, ap, ap₂, ◌∙◌, arith}
use Rattle.std.specs.Prelude.{ℤ, pos, negsuc, ◌*ℤ◌, ◌+ℤ◌, nat_abs, slice_index, slice_index_or}
use Rattle.std.proofs.lemmas.Int.{ints}
use Rattle.poly_terms.specs.model.Bounds as plain
use Rattle.poly_terms.specs.model.Bounds.{val, val_sum, val_product, val_maximum}
use Rattle.poly_terms.specs.model.Runs.{sizes_of_start}
use Rattle.signed_bounds.specs.Bounds.{positive_part, signed_val, signed_sum, signed_product, signed_maximum}
use Rattle.signed_bounds.specs.Inputs.{signed_of_bound, signed_of_parts, SignedBoundsKeepValues}

-- the maximum of the positive parts of an integer and of its opposite is its absolute value
greater_part : (z : ℤ)
    → max (positive_part ((pos 1 *ℤ (z *ℤ pos 1)) +ℤ pos 0))
    (max (positive_part ((negsuc 0 *ℤ (z *ℤ pos 1)) +ℤ pos 0)) 0)
    ≡ nat_abs z
greater_part (pos zero) = refl
greater_part (pos (suc n)) = parts n
  where
    plus : (n : ℕ) → (pos 1 *ℤ (pos (suc n) *ℤ pos 1)) +ℤ pos 0 ≡ pos (suc n)
    plus n = omega (arith, ints)

    minus : (n : ℕ) → (negsuc 0 *ℤ (pos (suc n) *ℤ pos 1)) +ℤ pos 0 ≡ negsuc n
    minus n = omega (arith, ints)

    parts : (n : ℕ)
        → max (positive_part ((pos 1 *ℤ (pos (suc n) *ℤ pos 1)) +ℤ pos 0))
        (max (positive_part ((negsuc 0 *ℤ (pos (suc n) *ℤ pos 1)) +ℤ pos 0)) 0)
        ≡ suc n
    parts n = omega (arith, ap positive_part (plus n), ap positive_part (minus n))
greater_part (negsuc n) = parts n
  where
    plus : (n : ℕ) → (pos 1 *ℤ (negsuc n *ℤ pos 1)) +ℤ pos 0 ≡ negsuc n
    plus n = omega (arith, ints)

    minus : (n : ℕ) → (negsuc 0 *ℤ (negsuc n *ℤ pos 1)) +ℤ pos 0 ≡ pos (suc n)
    minus n = omega (arith, ints)

    parts : (n : ℕ)
        → max (positive_part ((pos 1 *ℤ (negsuc n *ℤ pos 1)) +ℤ pos 0))
        (max (positive_part ((negsuc 0 *ℤ (negsuc n *ℤ pos 1)) +ℤ pos 0)) 0)
        ≡ suc n
    parts n = omega (arith, ap positive_part (plus n), ap positive_part (minus n))

-- the absolute value of the start argument at a position is the size at that position
size_at : (start : List ℤ) (i : ℕ) → nat_abs (slice_index_or start i (pos 0)) ≡ slice_index (sizes_of_start start) i
size_at [] i = refl
size_at (z ∷ start) zero = refl
size_at (z ∷ start) (suc i) = size_at start i

mutual
  -- the value of a bound is that of its signed form
  pub signed_of_bound-value : (b : plain.Bound) (start : List ℤ)
      → signed_val (signed_of_bound b) start ≡ val b (sizes_of_start start)
  signed_of_bound-value (plain.Constant c) start = refl
  signed_of_bound-value (plain.Input i) start = greater_part (slice_index_or start i (pos 0)) ∙ size_at start i
  signed_of_bound-value (plain.SumOf bs) start = signed_of_parts-sum bs start
  signed_of_bound-value (plain.ProductOf bs) start = signed_of_parts-product bs start
  signed_of_bound-value (plain.MaximumOf bs) start = signed_of_parts-maximum bs start
  signed_of_bound-value (plain.PowerOf c e) start = ap (λ (v : ℕ). c ^ v) (signed_of_bound-value e start)

  pub signed_of_parts-sum : (bs : plain.Parts) (start : List ℤ)
      → signed_sum (signed_of_parts bs) start ≡ val_sum bs (sizes_of_start start)
  signed_of_parts-sum plain.NoParts start = refl
  signed_of_parts-sum (plain.Part b bs) start =
      ap₂ (λ (v w : ℕ). v + w) (signed_of_bound-value b start) (signed_of_parts-sum bs start)

  pub signed_of_parts-product : (bs : plain.Parts) (start : List ℤ)
      → signed_product (signed_of_parts bs) start ≡ val_product bs (sizes_of_start start)
  signed_of_parts-product plain.NoParts start = refl
  signed_of_parts-product (plain.Part b bs) start =
      ap₂ (λ (v w : ℕ). v * w) (signed_of_bound-value b start) (signed_of_parts-product bs start)

  pub signed_of_parts-maximum : (bs : plain.Parts) (start : List ℤ)
      → signed_maximum (signed_of_parts bs) start ≡ val_maximum bs (sizes_of_start start)
  signed_of_parts-maximum plain.NoParts start = refl
  signed_of_parts-maximum (plain.Part b bs) start =
      ap₂ (λ (v w : ℕ). max v w) (signed_of_bound-value b start) (signed_of_parts-maximum bs start)

-- bounds over absolute values keep their value as signed bounds
pub keeps_values : SignedBoundsKeepValues
keeps_values = record { each = signed_of_bound-value }
