-- Polynomials as expressions, with an expression in place of each variable.
use Rattle.std.specs.Prelude.{ℕ, Bool, true, ◌&&◌, nat_lt, List, [], ◌∷◌, pos, slice_index_or}
use Rattle.potentials.specs.model.Terms.{Term, Literal, Variable, Addition, Multiplication}
use Rattle.potentials.specs.model.Polynomials.{Monomial, Polynomial}

-- a product of variables, a monomial and a polynomial as expressions, with expression put i for variable i
abbrev pub product_term : (ℕ → Term) → List ℕ → Term
product_term put [] = Literal (pos 1)
product_term put (i ∷ vars) = Multiplication (put i) (product_term put vars)

abbrev pub monomial_term : (ℕ → Term) → Monomial → Term
monomial_term put m = Multiplication (Literal m.coef) (product_term put m.vars)

abbrev pub polynomial_term : (ℕ → Term) → Polynomial → Term
polynomial_term put [] = Literal (pos 0)
polynomial_term put (m ∷ ms) = Addition (monomial_term put m) (polynomial_term put ms)

-- a polynomial over its own variables
abbrev pub form_term : Polynomial → Term
form_term p = polynomial_term Variable p

-- the expression at a position of a list, or 0 if there is none
abbrev pub term_at : List Term → ℕ → Term
term_at terms i = slice_index_or terms i (Literal (pos 0))

-- a polynomial with these expressions in place of its variables
abbrev pub form_after : List Term → Polynomial → Term
form_after new_values p = polynomial_term (term_at new_values) p

-- whether only the first n variables are read
abbrev pub all_below : ℕ → List ℕ → Bool
all_below n [] = true
all_below n (i ∷ vars) = nat_lt i n && all_below n vars

abbrev pub reads_below : ℕ → Polynomial → Bool
reads_below n [] = true
reads_below n (m ∷ ms) = all_below n m.vars && reads_below n ms
