-- Places with an unbounded side, the low one and within a row.
use Rattle.std.proofs.Common.{◌≡◌, ℕ, zero, suc, ◌<◌, [], ◌∷◌, length, refl, arith}
use Rattle.std.specs.Prelude.{pos, negsuc, ◌≤ℤ◌}
use Rattle.std.proofs.lemmas.Int.{ints}
use Rattle.std.proofs.lemmas.List.Elements.{All-nil, All-cons, All-head}
use Rattle.its_model.specs.linear_forms.Forms.{Form, at, form_value}
use Rattle.its_model.specs.linear_forms.Points.{IsPoint}
use Rattle.guard_prep.specs.Prepared.{prepared}
use Rattle.guard_prep.specs.Tightening.{divisor_of}
use Rattle.cert_types.specs.rule_forms.Bounds.{IsUnboundedRay}
use Rattle.cert_types.specs.rule_forms.Worked.{plane_form, free_value}
use Rattle.cert_types.proofs.rule_forms.Rays.{unbounded-has-none}
use Rattle.cert_types.specs.cert_rules.AcceptsSizes.{Up, Low}
use Rattle.cert_types.specs.cert_rules.Gaps.{ScaledPoint}
use Rattle.cert_types.specs.cert_rules.WorkedGaps.{guessed, scaled}
use Rattle.local_size.specs.Places.{value_on}
use Rattle.time_bounds.specs.SizeWhys.{PassesEveryForm}
use Rattle.time_bounds.specs.WorkedReports.{along_free, from_one}
use Rattle.time_bounds.proofs.FreeValue.{free_point, of_rule}
use Rattle.time_bounds.proofs.PassedForms.{unbounded_passes}
use Rattle.worked_reasons.specs.UnboundedPlaces.{back_along_free, UnboundedPlacesAreWorkedOut}
use Rattle.worked_reasons.specs.Programs.{above_rule, above}

-- the negation of the free value
abbrev lowered_value : Form
lowered_value = plane_form (pos 0) (negsuc 0) (pos 0)

-- the negation rises back along C, where A is unchanged
stays_back : (j : ℕ) → j < 1 → at back_along_free j ≡ pos 0
stays_back zero l = refl
stays_back (suc j) l = absurd (omega (arith, l))

back_rises : IsUnboundedRay [] 1 lowered_value (at back_along_free)
back_rises = record {
  ray = record { each = All-nil (λ r. pos 0 ≤ℤ form_value r (at back_along_free) (pos 0)) };
  still = stays_back;
  rises = omega (arith, ints);
}

low : PassesEveryForm guessed 1 1 Low back_along_free from_one
low = record {
  rule = _;
  numbered = refl;
  not_polynomial = refl;
  ray_length = refl;
  point_length = refl;
  from = free_point;
  along = back_rises;
  passes = unbounded_passes [] 1 lowered_value from_one back_along_free free_point back_rises;
  none = unbounded-has-none [] 1 lowered_value (at back_along_free)
      (record { z = at from_one.parts; d = pos from_one.den; point = free_point }) back_rises;
}

-- the row C - A >= 0
abbrev row : Form
row = plane_form (negsuc 0) (pos 1) (pos 0)

-- along C the free value rises within the row
stays_on : (j : ℕ) → j < 1 → at along_free j ≡ pos 0
stays_on zero l = refl
stays_on (suc j) l = absurd (omega (arith, l))

rises : IsUnboundedRay (row ∷ []) 1 free_value (at along_free)
rises = record {
  ray = record {
    each = All-cons (λ r. pos 0 ≤ℤ form_value r (at along_free) (pos 0)) row [] (omega (arith, ints))
        (All-nil (λ r. pos 0 ≤ℤ form_value r (at along_free) (pos 0)));
  };
  still = stays_on;
  rises = omega (arith, ints);
}

-- the free value is unbounded upwards, from a point of the row
up_from : (kept : ScaledPoint) → length kept.parts ≡ 2 → IsPoint (row ∷ []) (at kept.parts) (pos kept.den)
    → PassesEveryForm above 1 1 Up along_free kept
unfolding divisor_of
up_from kept long point = record {
  rule = above_rule;
  numbered = refl;
  not_polynomial = refl;
  ray_length = refl;
  point_length = long;
  from = point;
  along = rises;
  passes = unbounded_passes (row ∷ []) 1 free_value kept along_free point rises;
  none = unbounded-has-none (row ∷ []) 1 free_value (at along_free)
      (record { z = at kept.parts; d = pos kept.den; point = point }) rises;
}

one_meets : IsPoint (row ∷ []) (at from_one.parts) (pos from_one.den)
one_meets = record {
  denominator = omega (arith, ints);
  meets = record {
    each = All-cons (λ r. pos 0 ≤ℤ form_value r (at from_one.parts) (pos 1)) row [] (omega (arith, ints))
        (All-nil (λ r. pos 0 ≤ℤ form_value r (at from_one.parts) (pos 1)));
  };
}

abbrev half : ScaledPoint
half = scaled (pos 1 ∷ pos 1 ∷ []) 2

half_meets : IsPoint (row ∷ []) (at half.parts) (pos half.den)
half_meets = record {
  denominator = omega (arith, ints);
  meets = record {
    each = All-cons (λ r. pos 0 ≤ℤ form_value r (at half.parts) (pos 2)) row [] (omega (arith, ints))
        (All-nil (λ r. pos 0 ≤ℤ form_value r (at half.parts) (pos 2)));
  };
}

-- the point where A is 1 and C is 0 is off the row
below_row : IsPoint (row ∷ []) (at (pos 1 ∷ pos 0 ∷ [])) (pos 1) → ⊥
below_row h =
    let holds = All-head (λ r. pos 0 ≤ℤ form_value r (at (pos 1 ∷ pos 0 ∷ [])) (pos 1)) row [] h.meets.each in
    omega (arith, ints, holds)

off_the_row : PassesEveryForm above 1 1 Up along_free (scaled (pos 1 ∷ pos 0 ∷ []) 1) → ⊥
unfolding divisor_of
off_the_row h =
    below_row
    (of_rule (λ r. IsPoint (prepared r).rows (at (pos 1 ∷ pos 0 ∷ [])) (pos 1)) above_rule h.rule h.numbered h.from)

-- the ray back along C leaves the row
leaves : IsUnboundedRay (row ∷ []) 1 lowered_value (at back_along_free) → ⊥
leaves h =
    let holds = All-head (λ r. pos 0 ≤ℤ form_value r (at back_along_free) (pos 0)) row [] h.ray.each in
    omega (arith, ints, holds)

leaves_the_row : PassesEveryForm above 1 1 Low back_along_free from_one → ⊥
unfolding divisor_of
leaves_the_row h =
    leaves
    (of_rule (λ r. IsUnboundedRay (prepared r).rows (prepared r).left (value_on Low (prepared r) 1) (at back_along_free))
    above_rule h.rule h.numbered h.along)

pub unbounded_places_worked : UnboundedPlacesAreWorkedOut
unbounded_places_worked = record {
  low = λ b. low;
  up = λ b. up_from from_one refl one_meets;
  from_half = λ b. up_from half refl half_meets;
  off_the_row = λ b h. off_the_row h;
  leaves_the_row = λ b h. leaves_the_row h;
}
