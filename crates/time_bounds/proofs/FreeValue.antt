-- A free value passes every affine form, and A - 1 doesn't.
use Rattle.std.proofs.Common.{◌≡◌, ℕ, zero, suc, ◌≤◌, [], ◌∷◌, List, Some, refl, sym, subst, arith}
use Rattle.std.specs.Prelude.{ℤ, pos, ◌≤ℤ◌}
use Rattle.std.proofs.lemmas.Int.{ints}
use Rattle.std.proofs.lemmas.List.Elements.{All-nil}
use Rattle.model.specs.Programs.{Rule}
use Rattle.model.proofs.Cases.{some_same}
use Rattle.its_model.specs.linear_forms.Forms.{at, form_value}
use Rattle.its_model.specs.linear_forms.Points.{IsPoint}
use Rattle.guard_prep.specs.Prepared.{prepared}
use Rattle.guard_prep.specs.Tightening.{divisor_of}
use Rattle.cert_types.specs.rule_forms.Bounds.{HasNone}
use Rattle.cert_types.specs.rule_forms.Kinds.{Affine}
use Rattle.cert_types.specs.rule_forms.Worked.{line_form, free_value}
use Rattle.cert_types.proofs.rule_forms.Rays.{unbounded-has-none}
use Rattle.cert_types.proofs.rule_forms.Worked.{worked}
use Rattle.cert_types.specs.cert_rules.AcceptsSizes.{Up}
use Rattle.cert_types.specs.cert_rules.Gaps.{ScaledPoint}
use Rattle.cert_types.specs.cert_rules.WorkedGaps.{guessed}
use Rattle.local_size.specs.Places.{value_on}
use Rattle.time_bounds.specs.SizeWhys.{PassesEveryForm}
use Rattle.time_bounds.specs.WorkedReports.{along_free, from_one}

-- a property of the rule with this number is one of the rule there
pub of_rule : (P : Rule → Type 0) (r q : Rule) → Some r ≡ Some q → P q → P r
of_rule P r q e h = subst P (sym (some_same r q e)) h

-- the point from which the free value rises
pub free_point : IsPoint [] (at from_one.parts) (pos from_one.den)
free_point = record {
  denominator = omega (arith, ints);
  meets = record { each = All-nil (λ r. pos 0 ≤ℤ form_value r (at from_one.parts) (pos from_one.den)) };
}

pub free_none : HasNone [] 1 free_value Affine
free_none =
    unbounded-has-none [] 1 free_value (at along_free) (record { z = at from_one.parts; d = pos from_one.den; point = free_point })
    worked.rays.unbounded

-- a form in one argument is affine
line_affine : (u : ℕ) → 1 ≤ u → at (pos 1 ∷ []) u ≡ pos 0
line_affine zero l = absurd (omega (arith, l))
line_affine (suc u) l = refl

-- A is at least A - 1
pub bounded : (ray : List ℤ) (kept : ScaledPoint) → PassesEveryForm guessed 2 1 Up ray kept → ⊥
unfolding divisor_of
bounded ray kept h =
    (of_rule (λ r. HasNone (prepared r).rows (prepared r).left (value_on Up (prepared r) 1) Affine) _ h.rule h.numbered h.none).each
    (line_form (pos 1) (pos 0)) 1 (omega arith) line_affine worked.bounds.argument
