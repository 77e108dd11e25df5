-- What reasons say of small programs.
use Rattle.std.proofs.Common.{◌≡◌, inl, inr, ℕ, zero, false, List, [], ◌∷◌, refl, arith}
use Rattle.std.specs.Prelude.{pos, negsuc}
use Rattle.std.proofs.lemmas.Int.{ints}
use Rattle.model.specs.Bounds.{Constant, Input}
use Rattle.model.proofs.Cases.{some_none}
use Rattle.model.proofs.Membership.{no_is_not_yes}
use Rattle.its_model.specs.linear_forms.Forms.{Form, at}
use Rattle.guard_prep.specs.Prepared.{prepared}
use Rattle.cert_types.specs.rule_forms.Bounds.{IsUnboundedRay}
use Rattle.cert_types.specs.rule_forms.Worked.{plane_form, free_value}
use Rattle.cert_types.proofs.rule_forms.Worked.{worked}
use Rattle.cert_types.specs.cert_rules.AcceptsSizes.{Up, Low}
use Rattle.cert_types.specs.cert_program.WorkedGaps.{first_place, looping}
use Rattle.local_size.specs.Places.{value_on}
use Rattle.bound_fixpoint.proofs.Cases.{either}
use Rattle.time_bounds.specs.TimeWhys.{FirstHitsLimitSo, RankHitsLimitSo}
use Rattle.time_bounds.proofs.FreeValue.{free_point, free_none, of_rule, bounded}
use Rattle.time_bounds.proofs.PassedForms.{unbounded_passes}
use Rattle.time_bounds.proofs.StayingRule.{none_shut, staying_so}
use Rattle.time_bounds.proofs.WorkedSizeWhys.{missing_sizes}
use Rattle.time_bounds.proofs.WorkedTimeWhys.{missing_times}
use Rattle.time_bounds.specs.WorkedReports.{staying_said, along_free, from_one}
use Rattle.time_bounds.specs.WorkedWhys.{BoundsAreSaid, other_limit_hit, TimeWhysAreWorkedOut}
use Rattle.time_bounds.specs.WorkedWhys.{SizeWhysAreWorkedOut, WhysAreWorkedOut}

bounds : BoundsAreSaid
bounds = record {
  entry = refl;
  start = refl;
  time = refl;
  size = refl;
  no_rule = refl;
  no_place = refl;
  timed = refl;
  untimed = refl;
  no_third = refl;
}

-- the limit hit of a ranking question isn't one of a rule's feasibility question
never_first : (ts : List ℕ) → FirstHitsLimitSo looping 10 ts other_limit_hit → ⊥
never_first [] h = h
never_first (t ∷ ts) (inl h) = let e = h.hits_limit.0 in (let none : ⊥ = cc in none)
never_first (t ∷ ts) (inr h) = never_first ts h.1

other_question : RankHitsLimitSo looping 10 staying_said 1 other_limit_hit → ⊥
other_question h =
    either h.hits_limit (λ own. let e = own.question in (let none : ⊥ = cc in none)) (λ points. never_first h.set points.first)

times : TimeWhysAreWorkedOut
times = record {
  gap = staying_so;
  other_rule = λ h. let e : ◌≡◌ {A = ℕ} 1 2 = h.rule in omega (arith, e);
  no_set = λ h. no_is_not_yes false refl ((h.sought.is_set.members 1).1 (inl refl));
  not_shut = λ h. none_shut first_place ((h.sought.are_shut.places first_place).0 (zero, omega arith, refl));
  other_question = other_question;
}

-- the negation of the free value
abbrev lowered_value : Form
lowered_value = plane_form (pos 0) (negsuc 0) (pos 0)

sizes : SizeWhysAreWorkedOut
sizes = record {
  unbounded = record {
    rule = _;
    numbered = refl;
    not_polynomial = refl;
    ray_length = refl;
    point_length = refl;
    from = free_point;
    along = worked.rays.unbounded;
    passes = unbounded_passes [] 1 free_value from_one along_free free_point worked.rays.unbounded;
    none = free_none;
  };
  not_down = λ h. down (of_rule (λ r. IsUnboundedRay (prepared r).rows (prepared r).left (value_on Low (prepared r) 1) (at along_free)) _
      h.rule h.numbered h.along);
  moving = λ h. still (of_rule (λ r. IsUnboundedRay (prepared r).rows (prepared r).left (value_on Up (prepared r) 1) (at (pos 1 ∷ pos 1 ∷ []))) _
      h.rule h.numbered h.along);
  no_point = λ h. let low = h.from.denominator in omega (arith, ints, low);
  ray_length = λ h. three (of_rule (λ r. 3 ≡ (prepared r).unknowns) _ h.rule h.numbered h.ray_length);
  long_point = λ h. three (of_rule (λ r. 3 ≡ (prepared r).unknowns) _ h.rule h.numbered h.point_length);
  bounded = bounded;
  known = λ h. some_none (Input 0) h.missing;
  timed = λ h. some_none (Constant 1) h.missing;
}
  where
    down : IsUnboundedRay [] 1 lowered_value (at along_free) → ⊥
    down l = let rises = l.rises in omega (arith, ints, rises)

    three : ◌≡◌ {A = ℕ} 3 2 → ⊥
    three e = omega (arith, e)

    still : IsUnboundedRay [] 1 free_value (at (pos 1 ∷ pos 1 ∷ [])) → ⊥
    still l = let e = l.still 0 (omega arith) in omega (arith, ints, e)

pub whys_worked : WhysAreWorkedOut
whys_worked = record { bounds = bounds; times = times; sizes = sizes; missing_times = missing_times; missing_sizes = missing_sizes }
