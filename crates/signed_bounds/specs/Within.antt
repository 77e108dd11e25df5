-- The comparison `within`: whether each n with n * den at most a bound is at most another bound.
use Rattle.std.specs.Prelude.{◌≡◌, ℕ, ◌+◌, ◌*◌, ◌-◌, ◌≤◌, Bool, true, false, ◌&&◌, ◌||◌, ◌==◌, nat_le, List, [], ◌∷◌, ◌++◌, ℤ}
use Rattle.std.specs.Prelude.{Option, Some, None, if◌then◌else◌}
use Rattle.poly_terms.specs.model.Terms.{Term}
use Rattle.signed_bounds.specs.Bounds.{Signed, Quotient, signed_val}
use Rattle.signed_bounds.specs.Limits.{quotient_limit}
use Rattle.signed_bounds.specs.Products.{Product, number, scaled, products_of, is_multipliable}
use Rattle.signed_bounds.specs.Fits.{fits}
use Rattle.signed_bounds.specs.Covers.{covers}
use Rattle.signed_bounds.specs.Safe.{IsSafe}

-- the numerator of a product that is just a quotient by den, and occurs at least once
abbrev pub numerator : ℕ → ℕ → List Signed → Option Signed
numerator den n (Quotient b d ∷ []) = if nat_le 1 n && (d == den) then Some b else None
numerator den n _ = None

-- the number of products that are just a quotient by den, and occur at least once
abbrev pub quotient_count : ℕ → List Product → ℕ
quotient_count den [] = 0
quotient_count den (q ∷ qs) =
    (elim (numerator den q.times q.factors) [ None ↦ 0 | Some b ↦ 1 ]) + quotient_count den qs

-- the product, once less
abbrev pub once_less : Product → Product
once_less p = record { times = p.times - 1; factors = p.factors }

-- whether a sum of products is covered by a numerator and den times the other products
abbrev pub is_covered_with_numerator : (Term → Bool) → ℕ → List Product → Option Signed → List Product → Bool
is_covered_with_numerator is_safe den ps None others = false
is_covered_with_numerator is_safe den ps (Some b) others =
    is_multipliable 1 b && covers is_safe ps (products_of b ++ scaled den others)

-- whether one of the second products is a quotient by den, such that the sum of the first is covered by its numerator
-- and den times all others; `before` are the products before the second ones
abbrev pub is_covered_by_quotient : (Term → Bool) → ℕ → List Product → List Product → List Product → Bool
is_covered_by_quotient is_safe den ps before [] = false
is_covered_by_quotient is_safe den ps before (q ∷ qs) =
    is_covered_with_numerator is_safe den ps (numerator den q.times q.factors) (before ++ once_less q ∷ qs)
    || is_covered_by_quotient is_safe den ps (before ++ q ∷ []) qs

-- whether the sum of the first products is at most den times that of the second and den - 1
abbrev pub is_covered_rounded : (Term → Bool) → ℕ → List Product → List Product → Bool
is_covered_rounded is_safe den ps qs = covers is_safe ps (number (den - 1) ∷ scaled den qs)

-- whether the sum is covered by one of the quotients, if there are at most 16
abbrev pub is_covered_by_some : (Term → Bool) → ℕ → List Product → List Product → Bool
is_covered_by_some is_safe den ps qs =
    nat_le (quotient_count den qs) quotient_limit && is_covered_by_quotient is_safe den ps [] qs

-- whether each n with n * den at most the first bound is at most the second, as the comparison of products decides it
abbrev pub is_covered : (Term → Bool) → ℕ → Signed → Signed → Bool
is_covered is_safe den a b =
    (is_multipliable 1 a && is_multipliable den b)
    && (is_covered_rounded is_safe den (products_of a) (products_of b)
    || is_covered_by_some is_safe den (products_of a) (products_of b))

-- whether each n with n * den at most the first bound is at most the second, as the shape of the bounds, where den is
-- 1, or the comparison of products decides it
abbrev pub within : (Term → Bool) → ℕ → Signed → Signed → Bool
within is_safe den a b = ((den == 1) && fits is_safe a b) || is_covered is_safe den a b

-- if a bound is within another one, each n with n * den at most the first is at most the second, at all start values
pub record WithinHolds : Type 0 where
  pub each : (is_safe : Term → Bool) → IsSafe is_safe → (den : ℕ) (a b : Signed) → 1 ≤ den
      → within is_safe den a b ≡ true → (start : List ℤ) (n : ℕ) → den * n ≤ signed_val a start
      → n ≤ signed_val b start
