-- Loops over the parts of a bound that find its value up to a limit.
use Rattle.std.proofs.Common.{◌≡◌, ℕ, ◌+◌, ◌*◌, ◌<◌, min, max, List, get_or, length, ap, sym, ◌∙◌, arith}
use Rattle.std.specs.Prelude.{ℤ}
use Rattle.std.proofs.Math.Nat.{mul_assoc}
use Rattle.bound_expr.proofs.Caps.{min-mul}
use Rattle.signed_bounds.specs.Bounds as plain
use Rattle.signed_bounds.specs.Bounds.{SignedParts, NoParts, signed_val, signed_sum, signed_product, signed_maximum}
use Rattle.signed_bounds.specs.Bounds.{signed_minimum}
use Rattle.signed_bounds.specs.declared.signed.Signed.{Signed}
use Rattle.signed_bounds.specs.Views.{signed_of, with_part}
use Rattle.signed_bounds.proofs.PartLoops.{before, parts_of-take_more}

-- one more part at the end
sum-with_part : (bs : SignedParts) (b : plain.Signed) (x : List ℤ)
    → signed_sum (with_part bs b) x ≡ signed_sum bs x + signed_val b x
sum-with_part NoParts b x = omega arith
sum-with_part (plain.Part c cs) b x = omega (arith, sum-with_part cs b x)

maximum-with_part : (bs : SignedParts) (b : plain.Signed) (x : List ℤ)
    → signed_maximum (with_part bs b) x ≡ max (signed_maximum bs x) (signed_val b x)
maximum-with_part NoParts b x = omega arith
maximum-with_part (plain.Part c cs) b x = omega (arith, maximum-with_part cs b x)

minimum-with_part : (bs : SignedParts) (b : plain.Signed) (n : ℕ) (x : List ℤ)
    → signed_minimum (with_part bs b) n x ≡ min (signed_minimum bs n x) (signed_val b x)
minimum-with_part NoParts b n x = omega arith
minimum-with_part (plain.Part c cs) b n x = omega (arith, minimum-with_part cs b n x)

product-with_part : (bs : SignedParts) (b : plain.Signed) (x : List ℤ)
    → signed_product (with_part bs b) x ≡ signed_product bs x * signed_val b x
product-with_part NoParts b x = omega arith
product-with_part (plain.Part c cs) b x =
    ap (λ (v : ℕ). signed_val c x * v) (product-with_part cs b x)
    ∙ sym (mul_assoc (signed_val c x) (signed_product cs x) (signed_val b x))

-- one more part of a sum adds its value, up to a limit
pub sum-step : (xs : List Signed) (at : List ℤ) (i : ℕ) (x : Signed) (so_far here after limit : ℕ) → i < length xs
    → x ≡ get_or xs i x
    → so_far ≡ min (signed_sum (before xs i) at) limit → here ≡ min (signed_val (signed_of x) at) limit
    → after ≡ min (so_far + here) limit
    → after ≡ min (signed_sum (before xs (i + 1)) at) limit
sum-step xs at i x so_far here after limit h e is_so_far is_here is_after =
    omega (
      arith,
      ap (λ (ps : SignedParts). signed_sum ps at) (parts_of-take_more xs i x h e),
      sum-with_part (before xs i) (signed_of x) at,
    )

-- one more part of a maximum may raise its value, up to a limit
pub maximum-step : (xs : List Signed) (at : List ℤ) (i : ℕ) (x : Signed) (so_far here after limit : ℕ) → i < length xs
    → x ≡ get_or xs i x
    → so_far ≡ min (signed_maximum (before xs i) at) limit → here ≡ min (signed_val (signed_of x) at) limit
    → after ≡ max so_far here
    → after ≡ min (signed_maximum (before xs (i + 1)) at) limit
maximum-step xs at i x so_far here after limit h e is_so_far is_here is_after =
    omega (
      arith,
      ap (λ (ps : SignedParts). signed_maximum ps at) (parts_of-take_more xs i x h e),
      maximum-with_part (before xs i) (signed_of x) at,
    )

-- the minimum of a number and of values is at most the number
minimum-below : (bs : SignedParts) (n : ℕ) (x : List ℤ) → min (signed_minimum bs n x) n ≡ signed_minimum bs n x
minimum-below NoParts n x = omega arith
minimum-below (plain.Part c cs) n x = omega (arith, minimum-below cs n x)

-- one more part may lower the minimum of a limit and of values up to that limit
pub minimum-step : (xs : List Signed) (at : List ℤ) (i : ℕ) (x : Signed) (so_far here after limit : ℕ) → i < length xs
    → x ≡ get_or xs i x
    → so_far ≡ signed_minimum (before xs i) limit at → here ≡ min (signed_val (signed_of x) at) limit
    → after ≡ min so_far here
    → after ≡ signed_minimum (before xs (i + 1)) limit at
minimum-step xs at i x so_far here after limit h e is_so_far is_here is_after =
    omega (
      arith,
      ap (λ (ps : SignedParts). signed_minimum ps limit at) (parts_of-take_more xs i x h e),
      minimum-with_part (before xs i) (signed_of x) limit at,
      minimum-below (before xs i) limit at,
    )

-- one more factor multiplies by its value, up to a limit
pub product-step : (xs : List Signed) (at : List ℤ) (i : ℕ) (x : Signed) (so_far here after limit : ℕ) → i < length xs
    → x ≡ get_or xs i x
    → so_far ≡ min (signed_product (before xs i) at) limit → here ≡ min (signed_val (signed_of x) at) limit
    → after ≡ min (so_far * here) limit
    → after ≡ min (signed_product (before xs (i + 1)) at) limit
product-step xs at i x so_far here after limit h e is_so_far is_here is_after =
    is_after
    ∙ ap (λ (v : ℕ). min (v * here) limit) is_so_far
    ∙ ap (λ (v : ℕ). min (min (signed_product (before xs i) at) limit * v) limit) is_here
    ∙ min-mul (signed_product (before xs i) at) (signed_val (signed_of x) at) limit
    ∙ ap (λ (v : ℕ). min v limit)
    (sym (ap (λ (ps : SignedParts). signed_product ps at) (parts_of-take_more xs i x h e)
    ∙ product-with_part (before xs i) (signed_of x) at))
