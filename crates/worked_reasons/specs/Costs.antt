-- Why costs have no bound, worked out by hand: of k(A) -> l(A) for a cost of C, where C is free; and of a rule without
-- a cost.
use Rattle.std.specs.Prelude.{[], ◌∷◌}
use Rattle.model.specs.Programs.{Program, Rule}
use Rattle.model.specs.Terms.{Variable}
use Rattle.model.specs.WorkedCosts.{with_cost}
use Rattle.outcome.specs.Reports.{SizeUnbounded, SizeHitLimit}
use Rattle.cert_types.specs.declared.answer.Question.TheVariants as asked
use Rattle.cert_types.specs.cert_program.WorkedGaps.{looping}
use Rattle.cert_types.specs.cert_rules.AcceptsSizes.{Up, Low}
use Rattle.cert_types.specs.cert_rules.WorkedSettings.{rule_over, program_with}
use Rattle.bound_fixpoint.specs.Keys.{Bounds}
use Rattle.time_bounds.specs.CostWhys.{HasNoCost}
use Rattle.time_bounds.specs.WorkedReports.{along_free, from_one}
use Rattle.worked_reasons.specs.Programs.{limit_hit_at}

-- k(A) -> l(A), which costs C
abbrev pub paying_rule : Rule
paying_rule = with_cost (Variable 1) (rule_over 0 1 1 (Variable 0) [])

abbrev pub paying : Program
paying = program_with (paying_rule ∷ [])

-- along C, from a point where it is at least 0, the cost exceeds every affine form in A; it isn't unbounded below.
-- Within no pivots the first linear program about the cost exceeds the limit of 0 pivots: with the question of the
-- cost, not with that of a place, and no other limit. And a rule without a cost has no such reason
pub record CostsAreWorkedOut : Type 0 where
  pub unbounded : (b : Bounds) → HasNoCost paying 10 b 1 (SizeUnbounded Up along_free from_one)
  pub not_below : (b : Bounds) → ¬ (HasNoCost paying 10 b 1 (SizeUnbounded Low along_free from_one))
  pub exceeds : (b : Bounds) → HasNoCost paying 0 b 1 (SizeHitLimit (limit_hit_at 0 (asked.Cost 1)))
  pub not_of_a_place : (b : Bounds) → ¬ (HasNoCost paying 0 b 1 (SizeHitLimit (limit_hit_at 0 (asked.Local 1 1))))
  pub no_cost : (b : Bounds) → ¬ (HasNoCost looping 0 b 1 (SizeHitLimit (limit_hit_at 0 (asked.Cost 1))))
