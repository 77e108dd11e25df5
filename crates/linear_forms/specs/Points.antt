-- Rational points and rays of rows; a row is a form that has to be at least 0.
use Rattle.std.specs.Prelude.{ℕ, List, ℤ, pos, ◌≤ℤ◌, ◌<ℤ◌}
use Rattle.std.specs.List.{All}
use Rattle.linear_forms.specs.Forms.{Form, form_value}

-- each row is at least 0 at the numerators z over the denominator d
pub record Meets (rows : List Form) (z : ℕ → ℤ) (d : ℤ) : Type 0 where
  pub each : All (λ r. pos 0 ≤ℤ form_value r z d) rows

-- a rational point of the rows: numerators z over a denominator d of at least 1 at which each row is at least 0
pub record IsPoint (rows : List Form) (z : ℕ → ℤ) (d : ℤ) : Type 0 where
  pub denominator : pos 0 <ℤ d
  pub meets : Meets rows z d

-- a ray of the rows: a direction along which no row decreases
abbrev pub IsRay : List Form → (ℕ → ℤ) → Type 0
IsRay rows z = Meets rows z (pos 0)
