-- Expressions, polynomials and rows of the code as plain data.
use Rattle.std.specs.Prelude.{List, map}
use Rattle.model.specs.Terms.{Term, Literal, Variable, Negation, Addition, Subtraction, Multiplication, Exponentiation}
use Rattle.model.specs.Polynomials as plain
use Rattle.linear_forms.specs.Forms.{Form}
use Rattle.poly_terms.specs.declared.expr.Expr.{Expr}
use Rattle.poly_terms.specs.declared.expr.Expr.TheVariants.{Num, Var, Neg', Add', Sub', Mul', Pow'}
use Rattle.poly_terms.specs.declared.poly.Monomial.{Monomial}
use Rattle.poly_terms.specs.declared.poly.Poly.{Poly}
use Rattle.poly_terms.specs.declared.poly.Row.{Row}

-- the expression as plain data: the same tree
abbrev pub term_of : Expr → Term
term_of (Num z) = Literal z
term_of (Var i) = Variable i
term_of (Neg' p e) = Negation (term_of e)
term_of (Add' p d q e) = Addition (term_of d) (term_of e)
term_of (Sub' p d q e) = Subtraction (term_of d) (term_of e)
term_of (Mul' p d q e) = Multiplication (term_of d) (term_of e)
term_of (Pow' p e n) = Exponentiation (term_of e) n

-- a monomial as plain data
abbrev pub monomial_of : Monomial → plain.Monomial
monomial_of m = record { coef = m.coef; vars = m.vars.items }

-- monomials as plain data
abbrev pub monomials_of : List Monomial → plain.Polynomial
monomials_of ms = map monomial_of ms

-- a polynomial as plain data
abbrev pub poly_of : Poly → plain.Polynomial
poly_of p = monomials_of p.terms.items

-- a row as an affine form
abbrev pub form_of : Row → Form
form_of r = record { coefs = r.coefs.items; constant = r.constant }
