-- Which of two rules without a time is reported for a loop that grows by both.
use Rattle.std.proofs.Common.{refl, arith}
use Rattle.std.proofs.lemmas.Int.{ints}
use Rattle.model.specs.Bounds.{Constant}
use Rattle.outcome.specs.Reports.{Timed, SizeUntimed}
use Rattle.cert_types.specs.cert_rules.Checks.{cycle_checks}
use Rattle.cert_types.specs.cert_rules.Reasons as reasons
use Rattle.cert_types.specs.cert_rules.Reasons.{IsFirstAmong}
use Rattle.cert_types.proofs.cert_rules.CheckLists.{first_is_one}
use Rattle.cert_types.proofs.cert_rules.TestedNodes.{first-cycle}
use Rattle.guard_prep.specs.Tightening.{divisor_of}
use Rattle.cert_types.specs.cert_program.Setting.{setting_of}
use Rattle.cert_types.specs.cert_program.bound_table.InForce.{rewritten}
use Rattle.cert_types.specs.cert_program.bound_table.Rewriting.{simplified, passes_until_same, at_node, parts_passed}
use Rattle.bound_fixpoint.specs.Keys.{over}
use Rattle.time_bounds.specs.SizeWhys.{LacksFirst}
use Rattle.worked_reasons.specs.FirstUntimed.{growing_twice, grown, bounds_with, unknown}
use Rattle.worked_reasons.specs.FirstUntimed.{FirstUntimedIsWorkedOut}

-- if neither rule has a time, the first rule's is the first that is missing
first_missing :
    IsFirstAmong (cycle_checks (setting_of growing_twice) (over (bounds_with (unknown 1) (unknown 2))) grown)
    (reasons.MissingTime 1)
unfolding divisor_of rewritten simplified passes_until_same at_node parts_passed
first_missing =
    first-cycle (setting_of growing_twice) (over (bounds_with (unknown 1) (unknown 2))) grown (reasons.MissingTime 1) refl

-- if the first rule has a time, the second rule's is the first that is missing
second_missing :
    IsFirstAmong (cycle_checks (setting_of growing_twice) (over (bounds_with (Timed (Constant 3)) (unknown 2))) grown)
    (reasons.MissingTime 2)
unfolding divisor_of rewritten simplified passes_until_same at_node parts_passed
second_missing =
    first-cycle (setting_of growing_twice) (over (bounds_with (Timed (Constant 3)) (unknown 2))) grown
    (reasons.MissingTime 2) refl

not_second : LacksFirst (setting_of growing_twice) (bounds_with (unknown 1) (unknown 2)) grown (SizeUntimed 2) → ⊥
not_second (r, is, fails) =
    let same = first_is_one (cycle_checks (setting_of growing_twice) (over (bounds_with (unknown 1) (unknown 2))) grown)
    (reasons.MissingTime 1) r first_missing fails in
    (let none : ⊥ = cc in none)

not_first : LacksFirst (setting_of growing_twice) (bounds_with (Timed (Constant 3)) (unknown 2)) grown (SizeUntimed 1) → ⊥
not_first (r, is, fails) =
    let same =
    first_is_one (cycle_checks (setting_of growing_twice) (over (bounds_with (Timed (Constant 3)) (unknown 2))) grown)
    (reasons.MissingTime 2) r second_missing fails in
    (let none : ⊥ = cc in none)

pub first_untimed_worked : FirstUntimedIsWorkedOut
first_untimed_worked = record {
  first = (reasons.MissingTime 1, refl, first_missing);
  not_second = not_second;
  second = (reasons.MissingTime 2, refl, second_missing);
  not_first = not_first;
}
