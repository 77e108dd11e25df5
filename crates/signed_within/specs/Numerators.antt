-- A quotient at a position among the products of a bound.
use Rattle.std.specs.Prelude.{◌≡◌, ℕ, Bool, false, List, [], ◌∷◌, ◌++◌, Option, Some, None}
use denote.Ref.{Bor}
use Rattle.signed_bounds.specs.Bounds as plain
use Rattle.signed_bounds.specs.Views.{signed_of}
use Rattle.signed_bounds.specs.declared.signed.Signed.{Signed}
use Rattle.signed_bounds.specs.Safe.{expands_to_squares}
use Rattle.signed_bounds.specs.Products.{Product}
use Rattle.signed_bounds.specs.Within.{numerator, once_less, is_covered_with_numerator}

-- the product is just a quotient by den, with this numerator; or it isn't, and there is none
abbrev pub IsNumerator : ℕ → Product → Option (Bor Signed) → Type 0
IsNumerator den q None = numerator den q.times q.factors ≡ None
IsNumerator den q (Some r) = numerator den q.times q.factors ≡ Some (signed_of r.now)

-- whether the first of the products from a position on is a quotient by den, so that the sum is covered by its
-- numerator and den times all others
abbrev pub is_covered_at : ℕ → List Product → List Product → List Product → Bool
is_covered_at den ps before [] = false
is_covered_at den ps before (q ∷ qs) =
    is_covered_with_numerator expands_to_squares den ps (numerator den q.times q.factors) (before ++ once_less q ∷ qs)
