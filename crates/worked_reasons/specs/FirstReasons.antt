-- Worked values of which of several reasons is reported for the place that doubles in k(A) -> l(A) with l(A) -> l(2 *
-- A).
use Rattle.std.specs.Prelude.{◌≡◌, ℕ, None}
use Rattle.outcome.specs.Reports.{SizeMissing, SizeUntimed, SizeLarge}
use Rattle.cert_types.specs.cert_rules.WorkedSettings.{doubling}
use Rattle.bound_fixpoint.specs.Keys.{Bounds, key}
use Rattle.time_bounds.specs.SaidBounds.{bounds_said}
use Rattle.time_bounds.specs.SizeWhys.{HasNoSize}
use Rattle.worked_reasons.specs.Programs.{untimed_tower_report, timed_tower_report}

abbrev pub untimed_tower_said : Bounds
untimed_tower_said = bounds_said doubling.program untimed_tower_report

abbrev pub timed_tower_said : Bounds
timed_tower_said = bounds_said doubling.program timed_tower_report

-- as long as the size after the first rule is missing, that is the reason, and not the rule that doubles, whether that
-- has a time or not. If that size has 201 levels, the rule is the reason if it has no time, and not how large the size
-- is; if it has a time, the reason is the size's 415 nodes, and not 414
pub record FirstReasonsAreWorkedOut : Type 0 where
  pub missing : (b : Bounds) → b 1 1 ≡ None → HasNoSize doubling.program 10 b 2 1 (SizeMissing (key 1 1))
  pub not_untimed : (b : Bounds) → b 1 1 ≡ None → ¬ (HasNoSize doubling.program 10 b 2 1 (SizeUntimed 2))
  pub untimed : HasNoSize doubling.program 10 untimed_tower_said 2 1 (SizeUntimed 2)
  pub not_large : (n : ℕ) → ¬ (HasNoSize doubling.program 10 untimed_tower_said 2 1 (SizeLarge n))
  pub large : HasNoSize doubling.program 10 timed_tower_said 2 1 (SizeLarge 415)
  pub not_so_large : ¬ (HasNoSize doubling.program 10 timed_tower_said 2 1 (SizeLarge 414))
