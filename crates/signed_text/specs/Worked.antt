-- The texts of small bounds, as they were worked out by hand.
use Rattle.std.specs.Prelude.{◌≡◌, ◌≢◌, ℕ, List, [], ◌∷◌, ℤ, pos, negsuc, codes}
use Rattle.poly_terms.specs.model.Polynomials.{Monomial, Polynomial}
use Rattle.poly_terms.specs.model.Programs.{Name}
use Rattle.signed_bounds.specs.Bounds.{Signed, Constant, PositivePart, SumOf, ProductOf, MaximumOf, MinimumOf, Quotient}
use Rattle.signed_bounds.specs.Bounds.{Root, PowerOf, SignedParts, NoParts, Part}
use Rattle.signed_text.specs.Polynomials.{polynomial_text}
use Rattle.signed_text.specs.Texts.{signed_text}

-- start arguments with the names x, y and n
abbrev pub names_x_y_n : List Name
names_x_y_n = codes "x" ∷ codes "y" ∷ codes "n" ∷ []

-- a monomial
abbrev pub term : ℤ → List ℕ → Monomial
term coef vars = record { coef = coef; vars = vars }

-- y - x, with its monomials in the order of their variables; and x
abbrev pub y_less_x : Polynomial
y_less_x = term (negsuc 0) (0 ∷ []) ∷ term (pos 1) (1 ∷ []) ∷ []

abbrev pub monomial_x : Polynomial
monomial_x = term (pos 1) (0 ∷ []) ∷ []

-- lists of one, two and three parts
abbrev pub one_part : Signed → SignedParts
one_part a = Part a NoParts

abbrev pub two_parts : Signed → Signed → SignedParts
two_parts a b = Part a (Part b NoParts)

-- these bytes are the text of a polynomial, and of a bound
abbrev pub Prints : Polynomial → List ℕ → Type 0
Prints p text = polynomial_text names_x_y_n p ≡ text

abbrev pub Writes : Signed → List ℕ → Type 0
Writes b text = signed_text names_x_y_n b ≡ text

-- polynomials: what is added comes before what is subtracted, products before variables, and numbers last; 1 and the
-- first sign are left out
pub record PolynomialsAreWorkedOut : Type 0 where
  pub difference : Prints y_less_x (codes "y - x")
  pub opposite : Prints (term (negsuc 0) (0 ∷ []) ∷ []) (codes "-x")
  pub squares : Prints (term (negsuc 0) (2 ∷ []) ∷ term (pos 5) (2 ∷ 2 ∷ []) ∷ []) (codes "5*n*n - n")
  pub products : Prints (term (negsuc 1) (0 ∷ 1 ∷ []) ∷ term (pos 1) (2 ∷ 2 ∷ []) ∷ []) (codes "n*n - 2*x*y")
  pub with_number : Prints (term (pos 3) [] ∷ term (negsuc 1) (1 ∷ []) ∷ []) (codes "-2*y + 3")
  pub less_number : Prints (term (negsuc 2) [] ∷ term (pos 1) (1 ∷ []) ∷ []) (codes "y - 3")
  pub one_alone : Prints (term (pos 1) [] ∷ []) (codes "1")
  pub minus_one : Prints (term (negsuc 0) [] ∷ []) (codes "-1")
  pub nothing : Prints [] (codes "0")
  pub no_name : Prints (term (pos 1) (3 ∷ []) ∷ []) (codes "0")
  pub order : polynomial_text names_x_y_n y_less_x ≢ codes "x - y"

-- bounds of each kind; a factor is in brackets if it is a sum or a quotient
pub record BoundsAreWorkedOut : Type 0 where
  pub constant : Writes (Constant 12) (codes "12")
  pub part : Writes (PositivePart y_less_x) (codes "[y - x]")
  pub sum : Writes (SumOf (two_parts (PositivePart y_less_x) (Constant 1))) (codes "[y - x] + 1")
  pub product : Writes (ProductOf (two_parts (Constant 2) (PositivePart monomial_x))) (codes "2*[x]")
  pub factors : Writes (ProductOf (two_parts (SumOf (two_parts (PositivePart monomial_x) (Constant 1)))
      (Quotient (Constant 7) 2)))
      (codes "([x] + 1)*((7)/2)")
  pub maximum : Writes (MaximumOf (two_parts (PositivePart monomial_x) (Constant 1))) (codes "max([x], 1)")
  pub minimum : Writes (MinimumOf (PositivePart monomial_x) (two_parts (Constant 1) (Constant 2)))
      (codes "min([x], 1, 2)")
  pub only_minimum : Writes (MinimumOf (Constant 1) NoParts) (codes "min(1)")
  pub quotient : Writes (Quotient (SumOf (two_parts (PositivePart monomial_x) (Constant 1))) 2) (codes "([x] + 1)/2")
  pub root : Writes (Root (ProductOf (two_parts (Constant 2) (PositivePart monomial_x)))) (codes "root(2*[x])")
  pub power : Writes (PowerOf 2 (PositivePart monomial_x)) (codes "2^([x])")
  pub no_sum : Writes (SumOf NoParts) (codes "0")
  pub no_product : Writes (ProductOf NoParts) (codes "1")
  pub no_maximum : Writes (MaximumOf NoParts) (codes "max(0)")
  pub in_sum : Writes (SumOf (one_part (Quotient (Constant 7) 2))) (codes "(7)/2")
  pub reversed : signed_text names_x_y_n (Quotient (Constant 7) 2) ≢ signed_text names_x_y_n (Quotient (Constant 2) 7)

pub record TextsAreWorkedOut : Type 0 where
  pub polynomials : PolynomialsAreWorkedOut
  pub bounds : BoundsAreWorkedOut
