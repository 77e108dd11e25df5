-- Laws of certificates, and worked values of points, rays and certificates.
use Rattle.std.specs.Prelude.{◌≡◌, ℕ, List, [], ◌∷◌, ℤ, pos, negsuc, ◌≤ℤ◌}
use Rattle.linear_forms.specs.Forms.{Form, at, form_value}
use Rattle.linear_forms.specs.Points.{Meets, IsPoint, IsRay}
use Rattle.linear_forms.specs.Certificates.{Implies, minus_one}

-- if multipliers show that a goal follows from rows, the goal is at least 0 wherever all rows are: on each rational
-- point of the rows, and along each of their rays; and if -1 follows, the rows have no point
pub record CertificatesHold : Type 0 where
  pub each : (rows : List Form) (multipliers : List ℕ) (goal : Form) → Implies rows multipliers goal
      → (z : ℕ → ℤ) (d : ℤ) → Meets rows z d → pos 0 ≤ℤ d → pos 0 ≤ℤ form_value goal z d
  pub on_points : (rows : List Form) (multipliers : List ℕ) (goal : Form) → Implies rows multipliers goal
      → (z : ℕ → ℤ) (d : ℤ) → IsPoint rows z d → pos 0 ≤ℤ form_value goal z d
  pub along_rays : (rows : List Form) (multipliers : List ℕ) (goal : Form) → Implies rows multipliers goal
      → (z : ℕ → ℤ) → IsRay rows z → pos 0 ≤ℤ form_value goal z (pos 0)
  pub no_point : (rows : List Form) (multipliers : List ℕ) → Implies rows multipliers minus_one
      → (z : ℕ → ℤ) (d : ℤ) → ¬ (IsPoint rows z d)

-- a form in two unknowns, by its coefficients and its constant
abbrev pub plane : ℤ → ℤ → ℤ → Form
plane a b c = record { coefs = a ∷ b ∷ []; constant = c }

-- these numerators of the unknowns A and B
abbrev pub at_two : ℤ → ℤ → ℕ → ℤ
at_two a b = at (a ∷ b ∷ [])

-- the rows A - 1 >= 0 and B - A >= 0
abbrev pub two_rows : List Form
two_rows = plane (pos 1) (pos 0) (negsuc 0) ∷ plane (negsuc 0) (pos 1) (pos 0) ∷ []

-- the rows A - 1 >= 0 and -A >= 0
abbrev pub no_rows : List Form
no_rows = plane (pos 1) (pos 0) (negsuc 0) ∷ plane (negsuc 0) (pos 0) (pos 0) ∷ []

-- values of 2*A - 3*B + 5 at (4, 1), at (1, 2) over 2, and along (4, 1); an unknown without a coefficient doesn't count
pub record FormsHaveTheirValues : Type 0 where
  pub whole : form_value (plane (pos 2) (negsuc 2) (pos 5)) (at_two (pos 4) (pos 1)) (pos 1) ≡ pos 10
  pub halves : form_value (plane (pos 2) (negsuc 2) (pos 5)) (at_two (pos 1) (pos 2)) (pos 2) ≡ pos 6
  pub along : form_value (plane (pos 2) (negsuc 2) (pos 5)) (at_two (pos 4) (pos 1)) (pos 0) ≡ pos 5
  pub unlisted : form_value (record { coefs = pos 2 ∷ []; constant = pos 5 }) (at_two (pos 4) (pos 1)) (pos 1) ≡ pos 13

-- for the rows A >= 1 and B >= A: (1, 1) and (3, 4) over 2 are points; (0, 1), (2, 1) and anything over 0 are not; (1,
-- 1) and (0, 1) are rays; (1, 0) and (-1, 0) are not
pub record PointsAreWorkedOut : Type 0 where
  pub corner : IsPoint two_rows (at_two (pos 1) (pos 1)) (pos 1)
  pub halves : IsPoint two_rows (at_two (pos 3) (pos 4)) (pos 2)
  pub first_row_fails : ¬ (IsPoint two_rows (at_two (pos 0) (pos 1)) (pos 1))
  pub second_row_fails : ¬ (IsPoint two_rows (at_two (pos 2) (pos 1)) (pos 1))
  pub over_nothing : ¬ (IsPoint two_rows (at_two (pos 1) (pos 1)) (pos 0))
  pub ray : IsRay two_rows (at_two (pos 1) (pos 1))
  pub upward_ray : IsRay two_rows (at_two (pos 0) (pos 1))
  pub flat_ray : ¬ (IsRay two_rows (at_two (pos 1) (pos 0)))
  pub backward_ray : ¬ (IsRay two_rows (at_two (negsuc 0) (pos 0)))

-- certificates: the sum of A - 1 and B - A shows B - 1, and twice the first plus the second shows A + B - 1, with 1 to
-- spare; the sum doesn't show B - 2, the first row alone doesn't show B - 1, and each row needs a multiplier; A - 1 and
-- -A add up to -1, which other multipliers don't show, and which doesn't follow from no rows
pub record CertificatesAreWorkedOut : Type 0 where
  pub sum : Implies two_rows (1 ∷ 1 ∷ []) (plane (pos 0) (pos 1) (negsuc 0))
  pub multiples : Implies two_rows (2 ∷ 1 ∷ []) (plane (pos 1) (pos 1) (negsuc 0))
  pub constant_too_low : ¬ (Implies two_rows (1 ∷ 1 ∷ []) (plane (pos 0) (pos 1) (negsuc 1)))
  pub other_coefficient : ¬ (Implies two_rows (1 ∷ 0 ∷ []) (plane (pos 0) (pos 1) (negsuc 0)))
  pub multiplier_missing : ¬ (Implies two_rows (1 ∷ []) (plane (pos 1) (pos 0) (negsuc 0)))
  pub no_multiplier : ¬ (Implies two_rows [] (plane (pos 0) (pos 0) (pos 0)))
  pub contradiction : Implies no_rows (1 ∷ 1 ∷ []) minus_one
  pub unequal : ¬ (Implies no_rows (2 ∷ 1 ∷ []) minus_one)
  pub nothing : ¬ (Implies [] [] minus_one)
