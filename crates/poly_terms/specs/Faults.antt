-- Why an expression is too large to be expanded, and the first subexpression that is.
use Rattle.std.specs.Prelude.{ℕ, zero, suc, Bool, false, ◌||◌, if◌then◌else◌, nat_lt, List, [], ◌∷◌, ◌++◌, length}
use Rattle.std.specs.Prelude.{Option, Some, None, nat_abs}
use Rattle.model.specs.Terms.{Term, Literal, Variable, Negation, Addition, Subtraction, Multiplication, Exponentiation}
use Rattle.model.specs.Limits.{coefficient_limit, monomial_limit, degree_limit}
use Rattle.model.specs.Polynomials.{Polynomial, degree_of}
use Rattle.poly_terms.specs.Expanding.{expanded}

-- the three faults of an expression, in ascending order
pub data Fault : Type 0 where
  LargeCoefficient : Fault
  ManyTerms : Fault
  HighDegree : Fault

-- some coefficient has an absolute value over 2^63 - 1
abbrev pub has_large : Polynomial → Bool
has_large [] = false
has_large (m ∷ ms) = nat_lt coefficient_limit (nat_abs m.coef) || has_large ms

-- the least fault of a polynomial that is a power with this exponent: a coefficient over 2^63 - 1, more than 64
-- monomials, a degree over 8 or an exponent over 8
abbrev pub fault_in : Polynomial → ℕ → Option Fault
fault_in p exponent =
    if has_large p then Some LargeCoefficient
    else (if nat_lt monomial_limit (length p) then Some ManyTerms
    else (if nat_lt degree_limit exponent || nat_lt degree_limit (degree_of p) then Some HighDegree else None))

-- the exponent of a power; any other expression is its own first power
abbrev pub exponent_of : Term → ℕ
exponent_of (Literal z) = 1
exponent_of (Variable i) = 1
exponent_of (Negation e) = 1
exponent_of (Addition d e) = 1
exponent_of (Subtraction d e) = 1
exponent_of (Multiplication d e) = 1
exponent_of (Exponentiation e n) = n

-- the least fault of an expression, without those of its subexpressions
abbrev pub fault_of : Term → Option Fault
fault_of t = fault_in (expanded t) (exponent_of t)

-- the powers of an expression, from the exponent 0 on
abbrev pub powers : Term → ℕ → List Term
powers e zero = Exponentiation e 0 ∷ []
powers e (suc n) = powers e n ++ Exponentiation e (suc n) ∷ []

-- the subexpressions of an expression: children before parents, left before right, and the lower powers of a power's
-- base just before the power
abbrev pub subexpressions : Term → List Term
subexpressions (Literal z) = Literal z ∷ []
subexpressions (Variable i) = Variable i ∷ []
subexpressions (Negation e) = subexpressions e ++ Negation e ∷ []
subexpressions (Addition d e) = subexpressions d ++ (subexpressions e ++ Addition d e ∷ [])
subexpressions (Subtraction d e) = subexpressions d ++ (subexpressions e ++ Subtraction d e ∷ [])
subexpressions (Multiplication d e) = subexpressions d ++ (subexpressions e ++ Multiplication d e ∷ [])
subexpressions (Exponentiation e n) = subexpressions e ++ powers e n

-- the first fault if there is one, else the second
abbrev pub or_else : Option Fault → Option Fault → Option Fault
or_else None g = g
or_else (Some f) g = Some f

-- the fault of the first expression that has one
abbrev pub first_among : List Term → Option Fault
first_among [] = None
first_among (t ∷ ts) = or_else (fault_of t) (first_among ts)

-- the fault that prevents the expansion of an expression: that of the first subexpression that has one
abbrev pub first_fault : Term → Option Fault
first_fault t = first_among (subexpressions t)
