-- When one bound is at most another by its shape.
use Rattle.std.specs.Prelude.{ℕ, Bool, true, false, ◌&&◌, ◌||◌, ◌==◌, nat_le, List, [], ◌∷◌, ℤ, pos, ◌≤◌}
use Rattle.poly_terms.specs.model.Terms.{Term, Literal, Variable, Addition, Subtraction, Multiplication}
use Rattle.poly_terms.specs.model.Polynomials.{Polynomial}
use Rattle.signed_bounds.specs.Bounds.{Signed, Constant, PositivePart, SumOf, ProductOf, MaximumOf, MinimumOf, Quotient}
use Rattle.signed_bounds.specs.Bounds.{Root, PowerOf, SignedParts, NoParts, Part, signed_val}

-- the product of variables as an expression
abbrev pub product_term : List ℕ → Term
product_term [] = Literal (pos 1)
product_term (v ∷ vs) = Multiplication (Variable v) (product_term vs)

-- a polynomial as an expression
abbrev pub polynomial_term : Polynomial → Term
polynomial_term [] = Literal (pos 0)
polynomial_term (m ∷ ms) = Addition (Multiplication (Literal m.coef) (product_term m.vars)) (polynomial_term ms)

-- m times the second polynomial less n times the first, as an expression
abbrev pub weighted_difference : ℕ → Polynomial → ℕ → Polynomial → Term
weighted_difference n f m h = Subtraction
    (Multiplication (Literal (pos m)) (polynomial_term h))
    (Multiplication (Literal (pos n)) (polynomial_term f))

-- whether the second polynomial is at least the first, by a test for expressions that are never negative
abbrev pub is_below : (Term → Bool) → Polynomial → Polynomial → Bool
is_below is_safe f h = is_safe (Subtraction (polynomial_term h) (polynomial_term f))

-- whether the first bound is at most the second by its shape: both have the same nodes, except that the numbers are at
-- most those of the second, and the differences of polynomials are never negative; divisors are the same, and bases are
-- at least 1
abbrev mutual
  pub fits : (Term → Bool) → Signed → Signed → Bool
  fits is_safe (Constant m) (Constant n) = nat_le m n
  fits is_safe (PositivePart f) (PositivePart h) = is_below is_safe f h
  fits is_safe (SumOf ds) (SumOf bs) = all_fit is_safe ds bs
  fits is_safe (ProductOf ds) (ProductOf bs) = all_fit is_safe ds bs
  fits is_safe (MaximumOf ds) (MaximumOf bs) = all_fit is_safe ds bs
  fits is_safe (MinimumOf a ds) (MinimumOf b bs) = fits is_safe a b && all_fit is_safe ds bs
  fits is_safe (Quotient a m) (Quotient b n) = (m == n) && fits is_safe a b
  fits is_safe (Root a) (Root b) = fits is_safe a b
  fits is_safe (PowerOf m a) (PowerOf n b) = (nat_le 1 m && nat_le m n) && fits is_safe a b
  fits is_safe _ _ = false

  pub all_fit : (Term → Bool) → SignedParts → SignedParts → Bool
  all_fit is_safe NoParts NoParts = true
  all_fit is_safe (Part a ds) (Part b bs) = fits is_safe a b && all_fit is_safe ds bs
  all_fit is_safe _ _ = false

-- whether each of two bounds fits the other, so that their values are equal
abbrev pub is_equal : (Term → Bool) → Signed → Signed → Bool
is_equal is_safe a b = fits is_safe a b && fits is_safe b a

-- whether the bound fits one of the parts
abbrev pub fits_some : (Term → Bool) → Signed → SignedParts → Bool
fits_some is_safe a NoParts = false
fits_some is_safe a (Part b bs) = fits is_safe a b || fits_some is_safe a bs

-- the parts of a maximum; no other bound has any
abbrev pub maximum_parts : Signed → SignedParts
maximum_parts (MaximumOf bs) = bs
maximum_parts _ = NoParts

-- whether the bound fits the factor, or one of its parts if it is a maximum
abbrev pub factor_fits : (Term → Bool) → Signed → Signed → Bool
factor_fits is_safe a b = fits is_safe a b || fits_some is_safe a (maximum_parts b)

-- the first value is at most the second at all start values
pub record IsAtMost (a b : Signed) : Type 0 where
  pub each : (x : List ℤ) → signed_val a x ≤ signed_val b x
