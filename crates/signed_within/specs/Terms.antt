-- Monomials and multiples of polynomials as expressions.
use Rattle.std.specs.Prelude.{ℕ, pos, Option}
use Rattle.poly_terms.specs.model.Terms.{Term, Literal, Multiplication}
use Rattle.poly_terms.specs.model.Polynomials.{Monomial, Polynomial}
use Rattle.signed_bounds.specs.Fits.{product_term, polynomial_term}
use Rattle.signed_bounds.specs.Products.{constant_part_of}

-- a monomial as an expression
abbrev pub monomial_term : Monomial → Term
monomial_term m = Multiplication (Literal m.coef) (product_term m.vars)

-- a polynomial times n as an expression
abbrev pub weighted_term : ℕ → Polynomial → Term
weighted_term n p = Multiplication (Literal (pos n)) (polynomial_term p)

-- the positive part of a monomial without variables
abbrev pub monomial_part : Monomial → Option ℕ
monomial_part m = constant_part_of m.coef m.vars
