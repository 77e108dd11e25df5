-- Horner's form of a polynomial: equal polynomials have equal coefficients in it, so equality is decided by comparing
-- these.
use Rattle.std.specs.Prelude.{ℕ, zero, suc, ℤ, pos, negsuc, ◌+ℤ◌, ◌*ℤ◌, List, Bool, true, false, ◌&&◌}
use Rattle.int_laws.specs.Polynomial.{Polynomial, variable, constant, ◌⊕◌, ◌⊖◌, ◌⊗◌, negated, first_value, other_values}

-- Horner's form: a constant, or p + x * q, where x is the first variable and only the others occur in p
pub data Horner : Type 0 where
  number : ℤ → Horner
  nested : Horner → Horner → Horner

-- the value of Horner's form
abbrev pub horner_value : Horner → List ℤ → ℤ
horner_value (number z) xs = z
horner_value (nested p q) xs = horner_value p (other_values xs) +ℤ first_value xs *ℤ horner_value q xs

-- the variable with this number
abbrev pub horner_variable : ℕ → Horner
horner_variable zero = nested (number (pos 0)) (number (pos 1))
horner_variable (suc i) = nested (horner_variable i) (number (pos 0))

-- a number added to a form
abbrev pub number_plus : ℤ → Horner → Horner
number_plus a (number b) = number (a +ℤ b)
number_plus a (nested p q) = nested (number_plus a p) q

-- the sum of two forms
abbrev pub horner_sum : Horner → Horner → Horner
horner_sum (number a) q = number_plus a q
horner_sum (nested p q) (number b) = nested (number_plus b p) q
horner_sum (nested p q) (nested r s) = nested (horner_sum p r) (horner_sum q s)

-- a form multiplied by a number
abbrev pub number_times : ℤ → Horner → Horner
number_times a (number b) = number (a *ℤ b)
number_times a (nested p q) = nested (number_times a p) (number_times a q)

-- the product of a form without the first variable and any form, given the product of the former with others
abbrev pub times_each : (Horner → Horner) → Horner → Horner
times_each f (number b) = nested (f (number b)) (number (pos 0))
times_each f (nested r s) = nested (f r) (times_each f s)

-- the product of two forms: p * r + x * (q * r)
abbrev pub horner_product : Horner → Horner → Horner
horner_product (number a) r = number_times a r
horner_product (nested p q) r = horner_sum (times_each (horner_product p) r)
    (nested (number (pos 0)) (horner_product q r))

-- the form of a polynomial
abbrev pub horner_of : Polynomial → Horner
horner_of (variable i) = horner_variable i
horner_of (constant z) = number z
horner_of (p ⊕ q) = horner_sum (horner_of p) (horner_of q)
horner_of (p ⊖ q) = horner_sum (horner_of p) (number_times (negsuc 0) (horner_of q))
horner_of (p ⊗ q) = horner_product (horner_of p) (horner_of q)
horner_of (negated p) = number_times (negsuc 0) (horner_of p)

-- a number is 0
abbrev pub is_zero : ℤ → Bool
is_zero (pos zero) = true
is_zero (pos (suc n)) = false
is_zero (negsuc n) = false

-- all coefficients are 0
abbrev pub is_horner_zero : Horner → Bool
is_horner_zero (number z) = is_zero z
is_horner_zero (nested p q) = is_horner_zero p && is_horner_zero q

-- two polynomials have the same coefficients
abbrev pub is_identity : Polynomial → Polynomial → Bool
is_identity p q = is_horner_zero (horner_of (p ⊖ q))
