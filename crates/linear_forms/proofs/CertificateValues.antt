-- The worked values of forms, points, rays and certificates.
use Rattle.std.proofs.Common.{◌≡◌, ℕ, zero, suc, [], ◌∷◌, refl, arith}
use Rattle.std.specs.Prelude.{ℤ, pos, negsuc, ◌+ℤ◌, ◌*ℤ◌, ◌≤ℤ◌}
use Rattle.std.proofs.lemmas.Int.{ints}
use Rattle.std.proofs.lemmas.List.Elements.{All-nil, All-cons, All-head, All-tail}
use Rattle.linear_forms.specs.Forms.{Form, at, form_value}
use Rattle.linear_forms.specs.Points.{Meets}
use Rattle.linear_forms.specs.CertificateLaws.{FormsHaveTheirValues, PointsAreWorkedOut, CertificatesAreWorkedOut}
use Rattle.linear_forms.specs.CertificateLaws.{plane, at_two}

-- the worked values of forms hold
pub values : FormsHaveTheirValues
values = record { whole = refl; halves = refl; along = refl; unlisted = refl }

-- two rows are satisfied if each of them is
meets_two : (r q : Form) (z : ℕ → ℤ) (d : ℤ) → pos 0 ≤ℤ form_value r z d → pos 0 ≤ℤ form_value q z d → Meets (r ∷ q ∷ []) z d
meets_two r q z d h k =
    let P : Form → Type 0 = λ (f : Form). pos 0 ≤ℤ form_value f z d in
    record { each = All-cons P r (q ∷ []) h (All-cons P q [] k (All-nil P)) }

-- if two rows are satisfied, each of them is at least 0
first_of_two : (r q : Form) (z : ℕ → ℤ) (d : ℤ) → Meets (r ∷ q ∷ []) z d → pos 0 ≤ℤ form_value r z d
first_of_two r q z d h = All-head (λ (f : Form). pos 0 ≤ℤ form_value f z d) r (q ∷ []) h.each

second_of_two : (r q : Form) (z : ℕ → ℤ) (d : ℤ) → Meets (r ∷ q ∷ []) z d → pos 0 ≤ℤ form_value q z d
second_of_two r q z d h =
    let P : Form → Type 0 = λ (f : Form). pos 0 ≤ℤ form_value f z d in
    All-head P q [] (All-tail P r (q ∷ []) h.each)

-- the values of the two rows at a point
abbrev row_a : Form
row_a = plane (pos 1) (pos 0) (negsuc 0)

abbrev row_b : Form
row_b = plane (negsuc 0) (pos 1) (pos 0)

-- the worked values of points and rays hold
pub points : PointsAreWorkedOut
points = record {
  corner = record { denominator = omega (arith, ints); meets = meets_two row_a row_b (at_two (pos 1) (pos 1)) (pos 1) (omega (arith, ints)) (omega (arith, ints)) };
  halves = record { denominator = omega (arith, ints); meets = meets_two row_a row_b (at_two (pos 3) (pos 4)) (pos 2) (omega (arith, ints)) (omega (arith, ints)) };
  first_row_fails = λ h. let low = first_of_two row_a row_b (at_two (pos 0) (pos 1)) (pos 1) h.meets in omega (arith, ints, low);
  second_row_fails = λ h. let low = second_of_two row_a row_b (at_two (pos 2) (pos 1)) (pos 1) h.meets in omega (arith, ints, low);
  over_nothing = λ h. let positive = h.denominator in omega (arith, ints, positive);
  ray = meets_two row_a row_b (at_two (pos 1) (pos 1)) (pos 0) (omega (arith, ints)) (omega (arith, ints));
  upward_ray = meets_two row_a row_b (at_two (pos 0) (pos 1)) (pos 0) (omega (arith, ints)) (omega (arith, ints));
  flat_ray = λ h. let low = second_of_two row_a row_b (at_two (pos 1) (pos 0)) (pos 0) h in omega (arith, ints, low);
  backward_ray = λ h. let low = first_of_two row_a row_b (at_two (negsuc 0) (pos 0)) (pos 0) h in omega (arith, ints, low);
}

-- the worked values of certificates hold, by comparing coefficients at each unknown
pub certificates : CertificatesAreWorkedOut
certificates = record {
  sum = record { long = refl; coefs = sum_coefs; constant = omega (arith, ints) };
  multiples = record { long = refl; coefs = multiples_coefs; constant = omega (arith, ints) };
  constant_too_low = λ h. let low = h.constant in omega (arith, ints, low);
  other_coefficient = λ h. let same = h.coefs 1 in omega (arith, ints, same);
  multiplier_missing = λ h. let same = h.long in omega (arith, same);
  no_multiplier = λ h. let same = h.long in omega (arith, same);
  contradiction = record { long = refl; coefs = contradiction_coefs; constant = omega (arith, ints) };
  unequal = λ h. let same = h.coefs 0 in omega (arith, ints, same);
  nothing = λ h. let low = h.constant in omega (arith, ints, low);
}
  where
    sum_coefs : (u : ℕ) → at (pos 0 ∷ pos 1 ∷ []) u ≡ pos 1 *ℤ at (pos 1 ∷ pos 0 ∷ []) u +ℤ (pos 1 *ℤ at (negsuc 0 ∷ pos 1 ∷ []) u +ℤ pos 0)
    sum_coefs zero = refl
    sum_coefs (suc zero) = refl
    sum_coefs (suc (suc u)) = refl

    multiples_coefs : (u : ℕ) → at (pos 1 ∷ pos 1 ∷ []) u ≡ pos 2 *ℤ at (pos 1 ∷ pos 0 ∷ []) u +ℤ (pos 1 *ℤ at (negsuc 0 ∷ pos 1 ∷ []) u +ℤ pos 0)
    multiples_coefs zero = refl
    multiples_coefs (suc zero) = refl
    multiples_coefs (suc (suc u)) = refl

    contradiction_coefs : (u : ℕ) → at [] u ≡ pos 1 *ℤ at (pos 1 ∷ pos 0 ∷ []) u +ℤ (pos 1 *ℤ at (negsuc 0 ∷ pos 0 ∷ []) u +ℤ pos 0)
    contradiction_coefs zero = refl
    contradiction_coefs (suc zero) = refl
    contradiction_coefs (suc (suc u)) = refl
