-- Polynomials with integer coefficients as expressions, and their values.
use Rattle.std.specs.Prelude.{ℕ, zero, suc, ℤ, pos, ◌+ℤ◌, ◌-ℤ◌, ◌*ℤ◌, neg_ℤ, List, [], ◌∷◌}

infixl 6 ◌⊕◌
infixl 6 ◌⊖◌
infixl 7 ◌⊗◌
-- a polynomial as an expression; the variables are numbered from 0
pub data Polynomial : Type 0 where
  variable : ℕ → Polynomial
  constant : ℤ → Polynomial
  ◌⊕◌ : Polynomial → Polynomial → Polynomial
  ◌⊖◌ : Polynomial → Polynomial → Polynomial
  ◌⊗◌ : Polynomial → Polynomial → Polynomial
  negated : Polynomial → Polynomial

-- the first value, or 0 if there is none
abbrev pub first_value : List ℤ → ℤ
first_value [] = pos 0
first_value (x ∷ xs) = x

-- the values after the first
abbrev pub other_values : List ℤ → List ℤ
other_values [] = []
other_values (x ∷ xs) = xs

-- the value of a variable, or 0 if none is given
abbrev pub value_of_variable : ℕ → List ℤ → ℤ
value_of_variable zero xs = first_value xs
value_of_variable (suc i) xs = value_of_variable i (other_values xs)

-- the value of a polynomial at these values of its variables
abbrev pub value : Polynomial → List ℤ → ℤ
value (variable i) xs = value_of_variable i xs
value (constant z) xs = z
value (p ⊕ q) xs = value p xs +ℤ value q xs
value (p ⊖ q) xs = value p xs -ℤ value q xs
value (p ⊗ q) xs = value p xs *ℤ value q xs
value (negated p) xs = neg_ℤ (value p xs)
