-- Worked values of what rules spend, and of reports on small programs with costs: which are reports on them, and which
-- hold on all of their runs.
use Rattle.std.specs.Prelude.{◌≡◌, ℕ, true, false, List, [], ◌∷◌, Option, Some, None}
use Rattle.farkas_cert.specs.model.Terms.{Variable}
use Rattle.farkas_cert.specs.model.Programs.{Program}
use Rattle.farkas_cert.specs.model.Bounds.{Bound, Constant, Input, SumOf}
use Rattle.farkas_cert.specs.model.Worked.{two_parts}
use Rattle.farkas_cert.specs.model.WorkedRuns.{entering, looping, over_two_places, countdown}
use Rattle.farkas_cert.specs.model.WorkedCosts.{with_cost, paying}
use Rattle.outcome.specs.Reports.{Time, Timed, Untimed, TimeLarge, NoSize, SizeUntimed, SizeLarge, Size}
use Rattle.outcome.specs.Reports.{RuleCost, Costed, Uncosted, Report, is_costed, is_bounded}
use Rattle.outcome.specs.Reports.{spent_in, spendings}
use Rattle.outcome.specs.Holding.{IsReportOn, ReportHolds}
use Rattle.outcome.specs.WorkedReports.{two_times, right_times, no_times, right_sizes, no_costs, report_with}

-- the bound of the cost of each of two rules
abbrev pub two_costs : Bound → Bound → List (Option RuleCost)
two_costs a b = Some (Costed a) ∷ Some (Costed b) ∷ []

-- a rule with a cost spends the bound of its cost, whatever its time is; a rule without a cost spends its time; if the
-- bound that counts is missing, none is spent. Of a rule without a cost no bound on a cost is missing
pub record SpendingsAreWorkedOut : Type 0 where
  pub by_cost : spent_in (Timed (Constant 9)) (Some (Costed (Input 0))) ≡ Some (Input 0)
  pub by_cost_alone : spent_in (Untimed (TimeLarge 5000)) (Some (Costed (Input 0))) ≡ Some (Input 0)
  pub by_time : spent_in (Timed (Constant 9)) None ≡ Some (Constant 9)
  pub no_cost : spent_in (Timed (Constant 9)) (Some (Uncosted (SizeLarge 5000))) ≡ None
  pub no_time : spent_in (Untimed (TimeLarge 5000)) None ≡ None
  pub in_order : spendings (two_times (Constant 1) (Constant 9)) (Some (Costed (Input 0)) ∷ None ∷ [])
      ≡ Some (Input 0) ∷ Some (Constant 9) ∷ []
  pub plain : is_costed None ≡ true
  pub costed : is_costed (Some (Costed (Constant 0))) ≡ true
  pub uncosted : is_costed (Some (Uncosted (SizeLarge 5000))) ≡ false

-- the program that counts down, where entering costs A and a round has no cost
abbrev pub paying_once : Program
paying_once = over_two_places (with_cost (Variable 0) entering ∷ looping ∷ [])

-- A + B
abbrev pub both_inputs : Bound
both_inputs = SumOf (two_parts (Input 0) (Input 1))

-- the report with these times, costs, this total and the right sizes
abbrev pub report_on_costs : List Time → List (Option RuleCost) → Option Bound → Report
report_on_costs ts cs sum = record { times = ts; costs = cs; total = sum; sizes = right_sizes }

-- reasons in place of both costs, and of that of the second rule
abbrev pub costs_missing : List (Option RuleCost)
costs_missing = Some (Uncosted (SizeUntimed 1)) ∷ Some (Uncosted (SizeUntimed 2)) ∷ []

abbrev pub second_cost_missing : List (Option RuleCost)
second_cost_missing = Some (Costed (Input 0)) ∷ Some (Uncosted (SizeLarge 5000)) ∷ []

-- a report is bounded where no time and no bound on a cost is missing, whether there is a total or not
pub record ReportsAreBounded : Type 0 where
  pub plain : is_bounded (report_with right_times None right_sizes) ≡ true
  pub paid : is_bounded (report_on_costs right_times (two_costs (Input 0) (Input 1)) None) ≡ true
  pub no_rule : is_bounded (record { times = []; costs = []; total = None; sizes = [] }) ≡ true
  pub untimed : is_bounded (report_on_costs no_times (two_costs (Input 0) (Input 1)) (Some both_inputs)) ≡ false
  pub second_untimed :
      is_bounded (report_with (Timed (Constant 1) ∷ Untimed (TimeLarge 5000) ∷ []) None right_sizes) ≡ false
  pub uncosted : is_bounded (report_on_costs right_times second_cost_missing (Some (Constant 10))) ≡ false

-- a report on a program has a cost for exactly the rules that have one, and a total exactly where each rule with a cost
-- has a bound on it and each other rule has a time: also where the time of a rule with a cost is missing
pub record ReportsFit : Type 0 where
  pub plain : IsReportOn countdown (report_with right_times (Some (Constant 10)) right_sizes)
  pub paid : IsReportOn paying (report_on_costs right_times (two_costs (Input 0) (Input 1)) (Some both_inputs))
  pub paid_once : IsReportOn paying_once
      (report_on_costs right_times (Some (Costed (Input 0)) ∷ None ∷ []) (Some (SumOf (two_parts (Input 0) (Constant 9)))))
  pub untimed : IsReportOn paying (report_on_costs no_times (two_costs (Input 0) (Input 1)) (Some both_inputs))
  pub uncosted : IsReportOn paying (report_on_costs right_times second_cost_missing None)
  pub cost_left_out : ¬ (IsReportOn paying (report_on_costs right_times no_costs (Some (Constant 10))))
  pub costs_left_out : ¬ (IsReportOn countdown (report_on_costs right_times [] (Some (Constant 10))))
  pub cost_added : ¬ (IsReportOn countdown
      (report_on_costs right_times (two_costs (Input 0) (Input 1)) (Some both_inputs)))
  pub cost_of_other : ¬ (IsReportOn paying_once
      (report_on_costs right_times (None ∷ Some (Costed (Input 0)) ∷ []) (Some (Input 0))))
  pub total_left_out : ¬ (IsReportOn paying (report_on_costs right_times (two_costs (Input 0) (Input 1)) None))
  pub total_without_cost : ¬ (IsReportOn paying (report_on_costs right_times second_cost_missing (Some (Constant 10))))
  pub total_without_time : ¬ (IsReportOn countdown (report_with no_times (Some (Constant 10)) right_sizes))

-- of the program that pays, the report of the costs A and B with the total A + B holds; with a bound that is too small
-- or of the other rule, or with a total that counts the steps or one rule alone, it doesn't. Reasons say nothing
pub record CostReportsHold : Type 0 where
  pub whole : ReportHolds paying (report_on_costs right_times (two_costs (Input 0) (Input 1)) (Some both_inputs))
  pub first_less : ¬ (ReportHolds paying
      (report_on_costs right_times (two_costs (Constant 2) (Input 1)) (Some both_inputs)))
  pub second_less : ¬ (ReportHolds paying
      (report_on_costs right_times (two_costs (Input 0) (Constant 6)) (Some both_inputs)))
  pub swapped : ¬ (ReportHolds paying (report_on_costs right_times (two_costs (Input 1) (Input 0)) (Some both_inputs)))
  pub total_of_steps : ¬ (ReportHolds paying
      (report_on_costs right_times (two_costs (Input 0) (Input 1)) (Some (Constant 10))))
  pub total_of_first : ¬ (ReportHolds paying
      (report_on_costs right_times (two_costs (Input 0) (Input 1)) (Some (Input 0))))
  pub total_of_second : ¬ (ReportHolds paying
      (report_on_costs right_times (two_costs (Input 0) (Input 1)) (Some (Input 1))))
  pub reasons : ReportHolds paying (report_on_costs right_times costs_missing None)
  pub lone_cost_less : ¬ (ReportHolds paying
      (report_on_costs right_times (Some (Costed (Constant 2)) ∷ Some (Uncosted (SizeUntimed 2)) ∷ []) None))
