-- Tests for expressions that are never negative.
use Rattle.std.specs.Prelude.{◌≡◌, ℕ, Bool, true, false, ◌&&◌, ◌==◌, List, [], ◌∷◌, ℤ, pos, negsuc, ◌≤ℤ◌, Option, Some, None}
use Rattle.poly_terms.specs.model.Terms.{Term, value}
use Rattle.poly_terms.specs.model.Polynomials.{Monomial, Polynomial}
use Rattle.poly_terms.specs.Expanding.{expanded}
use Rattle.poly_terms.specs.Faults.{Fault, first_fault}

-- the test accepts only expressions whose value is at least 0 everywhere
pub record IsSafe (is_safe : Term → Bool) : Type 0 where
  pub each : (t : Term) → is_safe t ≡ true → (env : List ℤ) → pos 0 ≤ℤ value t env

-- whether an integer is at least 0
abbrev pub is_natural : ℤ → Bool
is_natural (pos n) = true
is_natural (negsuc n) = false

-- whether variables come in pairs of equal ones, so that their product is a square
abbrev pub are_paired : List ℕ → Bool
are_paired [] = true
are_paired (v ∷ []) = false
are_paired (v ∷ w ∷ vs) = (v == w) && are_paired vs

-- whether a monomial is a square times a number of at least 0
abbrev pub is_square_multiple : Monomial → Bool
is_square_multiple m = is_natural m.coef && are_paired m.vars

-- whether each monomial is a square times a number of at least 0
abbrev pub is_sum_of_squares : Polynomial → Bool
is_sum_of_squares [] = true
is_sum_of_squares (m ∷ ms) = is_square_multiple m && is_sum_of_squares ms

-- whether the polynomial is a sum of squares, and there is no fault of expanding
abbrev pub is_expanded_safe : Option Fault → Polynomial → Bool
is_expanded_safe None p = is_sum_of_squares p
is_expanded_safe (Some f) p = false

-- whether an expression expands within the limits, to monomials with coefficients of at least 0 in which each variable
-- occurs an even number of times
abbrev pub expands_to_squares : Term → Bool
expands_to_squares t = is_expanded_safe (first_fault t) (expanded t)

-- an expression that expands to such monomials is never negative
pub record SquaresAreSafe : Type 0 where
  pub safe : IsSafe expands_to_squares
