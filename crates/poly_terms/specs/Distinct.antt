-- Packed monomials with ascending keys, so that no two have the same variables, and with small coefficients.
use Rattle.std.specs.Prelude.{◌≡◌, ℕ, ◌/◌, ◌≤◌, ◌<◌, ◌==◌, Bool, true, List, [], ◌∷◌, nat_abs, ⊤}
use Rattle.model.specs.Limits.{coefficient_limit}
use Rattle.poly_terms.specs.declared.keyed.Keyed.{Keyed}
use Rattle.poly_terms.specs.Keys.{number_of}

-- the number of a packed monomial's key
abbrev pub number : Keyed → ℕ
number e = number_of e.key

-- a number has no digit beyond those of the table's variables
abbrev pub is_within_table : List ℕ → ℕ → Bool
is_within_table [] k = k == 0
is_within_table (v ∷ vs) k = is_within_table vs (k / 16)

-- the absolute value of the coefficient is at most 2^63-1
abbrev pub HasSmallCoefficient : Keyed → Type 0
HasSmallCoefficient e = nat_abs e.coef ≤ coefficient_limit

-- after this packed monomial, the keys ascend, the last one fits the table, and the coefficients are small
abbrev pub RiseFrom : List ℕ → Keyed → List Keyed → Type 0
RiseFrom table e [] = is_within_table table (number e) ≡ true
RiseFrom table e (f ∷ fs) = (number e < number f) × (HasSmallCoefficient f × RiseFrom table f fs)

-- the keys ascend, so they are different; the last one fits the table, and the coefficients are small
abbrev pub AreDistinct : List ℕ → List Keyed → Type 0
AreDistinct table [] = ⊤
AreDistinct table (e ∷ es) = HasSmallCoefficient e × RiseFrom table e es
