-- The expanded form of an expression: a polynomial by the laws of sums, products and powers.
use Rattle.std.specs.Prelude.{ℕ, zero, suc, List, [], ◌∷◌, ◌++◌, map, ℤ, pos, ◌+ℤ◌, ◌*ℤ◌, neg_ℤ, if◌then◌else◌, nat_lt}
use Rattle.std.specs.declared.cmp.Ordering.{Ordering}
use Rattle.std.specs.Ordering.{nat_cmp, match_ordering}
use Rattle.std.specs.Cmp.Lexicographic.{slice_cmp}
use Rattle.linear_forms.specs.int_laws.NormalForm.{is_zero}
use Rattle.model.specs.Terms.{Term, Literal, Variable, Negation, Addition, Subtraction, Multiplication, Exponentiation}
use Rattle.model.specs.Polynomials.{Monomial, Polynomial}

-- the order of lists of variables: the first difference decides, and a proper prefix comes first
abbrev pub order : List ℕ → List ℕ → Ordering
order vs ws = slice_cmp nat_cmp vs ws

-- a polynomial with a monomial added: to the coefficient of the one with the same variables, else inserted at its
-- position in the order
abbrev pub added : Monomial → Polynomial → Polynomial
added m [] = m ∷ []
added m (t ∷ ts) =
    match_ordering (order m.vars t.vars) (m ∷ t ∷ ts) (record { coef = t.coef +ℤ m.coef; vars = t.vars } ∷ ts) (t
    ∷ added m ts)

-- a polynomial with all monomials of the second list added, one by one
abbrev pub all_added : Polynomial → List Monomial → Polynomial
all_added ts [] = ts
all_added ts (m ∷ ms) = all_added (added m ts) ms

-- the monomials whose coefficient isn't 0
abbrev pub without_zeros : Polynomial → Polynomial
without_zeros [] = []
without_zeros (m ∷ ms) = if is_zero m.coef then without_zeros ms else m ∷ without_zeros ms

-- the sum of two polynomials
abbrev pub sum_of : Polynomial → Polynomial → Polynomial
sum_of p q = without_zeros (all_added p q)

-- a monomial with its coefficient negated
abbrev pub opposite : Monomial → Monomial
opposite m = record { coef = neg_ℤ m.coef; vars = m.vars }

-- a list of ascending variables with one more, inserted at its position
abbrev pub inserted : ℕ → List ℕ → List ℕ
inserted v [] = v ∷ []
inserted v (w ∷ ws) = if nat_lt w v then w ∷ inserted v ws else v ∷ w ∷ ws

-- a list of variables with those of the second list inserted
abbrev pub all_inserted : List ℕ → List ℕ → List ℕ
all_inserted vs [] = vs
all_inserted vs (w ∷ ws) = all_inserted (inserted w vs) ws

-- the product of two monomials
abbrev pub multiplied : Monomial → Monomial → Monomial
multiplied m n = record { coef = m.coef *ℤ n.coef; vars = all_inserted m.vars n.vars }

-- the products of each monomial of the first list with each of the second
abbrev pub products : Polynomial → Polynomial → List Monomial
products [] q = []
products (m ∷ p) q = map (multiplied m) q ++ products p q

-- the product of two polynomials
abbrev pub product_of : Polynomial → Polynomial → Polynomial
product_of p q = sum_of [] (products p q)

-- the polynomial that is 1 everywhere
abbrev pub one : Polynomial
one = record { coef = pos 1; vars = [] } ∷ []

-- a power of a polynomial; the one with exponent 0 is 1
abbrev pub power_of : Polynomial → ℕ → Polynomial
power_of p zero = one
power_of p (suc n) = product_of (power_of p n) p

-- the expanded form of a literal, and that of a variable
abbrev pub literal_form : ℤ → Polynomial
literal_form z = without_zeros (record { coef = z; vars = [] } ∷ [])

abbrev pub variable_form : ℕ → Polynomial
variable_form i = record { coef = pos 1; vars = i ∷ [] } ∷ []

-- the expanded form of an expression
abbrev pub expanded : Term → Polynomial
expanded (Literal z) = literal_form z
expanded (Variable i) = variable_form i
expanded (Negation e) = map opposite (expanded e)
expanded (Addition d e) = sum_of (expanded d) (expanded e)
expanded (Subtraction d e) = sum_of (expanded d) (map opposite (expanded e))
expanded (Multiplication d e) = product_of (expanded d) (expanded e)
expanded (Exponentiation e n) = power_of (expanded e) n
