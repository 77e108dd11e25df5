-- Certificates by Farkas' lemma: a form follows from rows if it is a sum of nonnegative multiples of them plus a
-- nonnegative number.
use Rattle.std.specs.Prelude.{◌≡◌, ℕ, List, [], ◌∷◌, length, ℤ, pos, negsuc, ◌+ℤ◌, ◌*ℤ◌, ◌≤ℤ◌}
use Rattle.linear_forms.specs.Forms.{Form, at}

-- the coefficient of unknown u in the sum of the rows, each times its multiplier
abbrev pub combined_coef : List ℕ → List Form → ℕ → ℤ
combined_coef [] rows u = pos 0
combined_coef (m ∷ ms) [] u = pos 0
combined_coef (m ∷ ms) (r ∷ rows) u = pos m *ℤ at r.coefs u +ℤ combined_coef ms rows u

-- the constant of the sum of the rows, each times its multiplier
abbrev pub combined_constant : List ℕ → List Form → ℤ
combined_constant [] rows = pos 0
combined_constant (m ∷ ms) [] = pos 0
combined_constant (m ∷ ms) (r ∷ rows) = pos m *ℤ r.constant +ℤ combined_constant ms rows

-- the multipliers show that the goal is at least 0 wherever all rows are: there is one for each row, and the goal less
-- the sum of the rows times their multipliers has only coefficients 0 and a constant of at least 0
pub record Implies (rows : List Form) (multipliers : List ℕ) (goal : Form) : Type 0 where
  pub long : length multipliers ≡ length rows
  pub coefs : (u : ℕ) → at goal.coefs u ≡ combined_coef multipliers rows u
  pub constant : combined_constant multipliers rows ≤ℤ goal.constant

-- the form that is -1 everywhere
abbrev pub minus_one : Form
minus_one = record { coefs = []; constant = negsuc 0 }
