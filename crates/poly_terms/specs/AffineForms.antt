-- The affine form of a polynomial of degree at most 1.
use Rattle.std.specs.Prelude.{◌≡◌, ℕ, ◌<◌, List, [], ◌∷◌, map, set, ℤ, pos, ◌+ℤ◌, if◌then◌else◌, ⊤}
use Rattle.std.specs.List.{range_with_len}
use Rattle.std.specs.Ordering.{is_eq}
use Rattle.model.specs.Polynomials.{Polynomial, polynomial_value}
use Rattle.linear_forms.specs.Forms.{Form, at, form_value}
use Rattle.poly_terms.specs.Expanding.{order}

-- the coefficient of a list of variables, or 0 if no monomial has it
abbrev pub coefficient : List ℕ → Polynomial → ℤ
coefficient vs [] = pos 0
coefficient vs (m ∷ ms) = if is_eq (order vs m.vars) then m.coef +ℤ coefficient vs ms else coefficient vs ms

-- the coefficients of this many variables, and the constant
abbrev pub linear_form : ℕ → Polynomial → Form
linear_form width p = record {
  coefs = map (λ i. coefficient (i
      ∷ []) p) (range_with_len 0 width);
  constant = coefficient [] p;
}

-- each number is below n
abbrev pub AreVariablesBelow : ℕ → List ℕ → Type 0
AreVariablesBelow n [] = ⊤
AreVariablesBelow n (v ∷ vs) = (v < n) × AreVariablesBelow n vs

-- each variable of a polynomial is below n
abbrev pub HasVariablesBelow : ℕ → Polynomial → Type 0
HasVariablesBelow n [] = ⊤
HasVariablesBelow n (m ∷ ms) = AreVariablesBelow n m.vars × HasVariablesBelow n ms

-- the form has the value of the polynomial, whatever values the variables have
pub record HasValueOf (p : Polynomial) (f : Form) : Type 0 where
  pub each : (env : List ℤ) → form_value f (at env) (pos 1) ≡ polynomial_value p env

-- a form with the coefficient of a monomial of degree at most 1 written: as its constant, or at its variable
abbrev pub with_coefficient : Form → List ℕ → ℤ → Form
with_coefficient f [] z = record { coefs = f.coefs; constant = z }
with_coefficient f (i ∷ vs) z = record { coefs = set f.coefs i z; constant = f.constant }
