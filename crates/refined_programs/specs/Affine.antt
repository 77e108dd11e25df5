-- The expression of an affine form: its constant, and the products of its coefficients with their variables.
use Rattle.std.specs.Ordering.{int_eq}
use Rattle.std.specs.Prelude.{ℕ, suc, List, [], ◌∷◌, ℤ, pos, negsuc, if◌then◌else◌}
use Rattle.refinement.specs.model.Terms.{Term, Literal, Variable, Negation, Addition, Multiplication}
use Rattle.refined_programs.specs.declared.affine.Affine.{Affine}

-- a number as an expression: a negative one is the negation of its absolute value
abbrev pub number_term : ℤ → Term
number_term (pos n) = Literal (pos n)
number_term (negsuc n) = Negation (Literal (pos (suc n)))

-- the sum of an expression and the product of a coefficient with its variable; the expression alone if the coefficient
-- is 0
abbrev pub with_product : Term → ℕ → ℤ → Term
with_product t i a = if int_eq a (pos 0) then t else Addition t (Multiplication (number_term a) (Variable i))

-- the sum of an expression and the products of coefficients with the variables from i on
abbrev pub with_products : Term → ℕ → List ℤ → Term
with_products t i [] = t
with_products t i (a ∷ coefs) = with_products (with_product t i a) (suc i) coefs

-- the expression of coefficients and a constant
abbrev pub affine_term : List ℤ → ℤ → Term
affine_term coefs constant = with_products (number_term constant) 0 coefs

-- the expression of an affine form
abbrev pub affine_of : Affine → Term
affine_of a = affine_term a.coefs.items a.constant
