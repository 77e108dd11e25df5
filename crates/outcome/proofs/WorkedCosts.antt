-- Which worked reports with costs are reports on their programs, and which hold: by the facts of the program that pays.
use Rattle.std.proofs.Common.{◌≡◌, ℕ, zero, suc, List, [], ◌∷◌, Option, Some, None, refl, subst}
use Rattle.farkas_cert.specs.model.Bounds.{Bound, Constant, Input}
use Rattle.farkas_cert.specs.model.Facts.{HoldsTime, HoldsSize, HoldsCost, HoldsTotal}
use Rattle.farkas_cert.specs.model.WorkedRuns.{countdown}
use Rattle.farkas_cert.specs.model.WorkedCosts.{paying}
use Rattle.farkas_cert.proofs.model.WorkedFacts.{times_hold}
use Rattle.farkas_cert.proofs.model.WorkedCosts.{as_countdown, costs_hold}
use Rattle.farkas_cert.proofs.model.WorkedTotals.{totals_hold}
use Rattle.outcome.specs.Reports.{Timed, Size, Sized, NoSize, SizeUntimed, RuleCost, Costed, Uncosted}
use Rattle.outcome.specs.Holding.{numbered_entry, place_entry}
use Rattle.outcome.specs.WorkedReports.{right_times, right_sizes}
use Rattle.outcome.specs.WorkedCosts.{SpendingsAreWorkedOut, two_costs, both_inputs, costs_missing}
use Rattle.outcome.specs.WorkedCosts.{ReportsAreBounded, ReportsFit, CostReportsHold}
use Rattle.outcome.proofs.WorkedReports.{times_of_two, right_sizes_hold, no_entry_cost, no_total, same_total}

-- what rules spend
pub spendings_worked_out : SpendingsAreWorkedOut
spendings_worked_out = record {
  by_cost = refl;
  by_cost_alone = refl;
  by_time = refl;
  no_cost = refl;
  no_time = refl;
  in_order = refl;
  plain = refl;
  costed = refl;
  uncosted = refl;
}

-- which reports are bounded
pub reports_bounded : ReportsAreBounded
reports_bounded = record {
  plain = refl;
  paid = refl;
  no_rule = refl;
  untimed = refl;
  second_untimed = refl;
  uncosted = refl;
}

-- which reports are reports on their programs
pub reports_fit : ReportsFit
reports_fit = record {
  plain = record { times = refl; costs = refl; total = (λ e. refl, λ e. refl); sizes = refl };
  paid = record { times = refl; costs = refl; total = (λ e. refl, λ e. refl); sizes = refl };
  paid_once = record { times = refl; costs = refl; total = (λ e. refl, λ e. refl); sizes = refl };
  untimed = record { times = refl; costs = refl; total = (λ e. refl, λ e. refl); sizes = refl };
  uncosted = record {
    times = refl;
    costs = refl;
    total = (λ e. absurd (let no = e in cc), λ e. absurd (let no = e in cc));
    sizes = refl;
  };
  cost_left_out = λ h. (let no = h.costs in cc);
  costs_left_out = λ h. (let no = h.costs in cc);
  cost_added = λ h. (let no = h.costs in cc);
  cost_of_other = λ h. (let no = h.costs in cc);
  total_left_out = λ h. (let no = h.total.0 refl in cc);
  total_without_cost = λ h. (let no = h.total.1 refl in cc);
  total_without_time = λ h. (let no = h.total.1 refl in cc);
}

-- a bound on the program that counts down holds on the one that pays, which has the same runs
times_paying : (t : ℕ) (b : Bound) → numbered_entry right_times t ≡ Some (Timed b) → HoldsTime paying t b
times_paying t b e =
    let plain = times_of_two (Constant 1) (Constant 9) times_hold.first times_hold.loop t b e in
    record { each = λ start steps c run. plain.each start steps c (as_countdown start steps c run) }

sizes_paying : (t i : ℕ) (b : Bound) → place_entry (numbered_entry right_sizes t) i ≡ Some (Sized b)
    → HoldsSize paying t i b
sizes_paying t i b e =
    let plain = right_sizes_hold t i b e in
    record { each = λ start steps c run. plain.each start steps c (as_countdown start steps c run) }

-- equal costs have equal bounds
same_cost : (a b : Bound) → Some (Some (Costed a)) ≡ Some (Some (Costed b)) → a ≡ b
same_cost a b e = cc

-- a reason isn't a bound
reason_cost : (w : NoSize) (b : Bound) → Some (Some (Uncosted w)) ≡ Some (Some (Costed b)) → ⊥
reason_cost w b e = cc

-- the costs A and B hold
costs_paying : (t : ℕ) (b : Bound) → numbered_entry (two_costs (Input 0) (Input 1)) t ≡ Some (Some (Costed b))
    → HoldsCost paying t b
costs_paying zero b e = absurd (no_entry_cost b e)
costs_paying (suc zero) b e = subst (λ (d : Bound). HoldsCost paying 1 d) (same_cost (Input 0) b e) costs_hold.entering
costs_paying (suc (suc zero)) b e =
    subst (λ (d : Bound). HoldsCost paying 2 d) (same_cost (Input 1) b e) costs_hold.rounds
costs_paying (suc (suc (suc t))) b e = absurd (no_entry_cost b e)

-- reasons give no bound
none_costed : (t : ℕ) (b : Bound) → numbered_entry costs_missing t ≡ Some (Some (Costed b)) → HoldsCost paying t b
none_costed zero b e = absurd (no_entry_cost b e)
none_costed (suc zero) b e = absurd (reason_cost (SizeUntimed 1) b e)
none_costed (suc (suc zero)) b e = absurd (reason_cost (SizeUntimed 2) b e)
none_costed (suc (suc (suc t))) b e = absurd (no_entry_cost b e)

-- the report of the right costs holds, and with a wrong bound it doesn't
pub cost_reports_hold : CostReportsHold
cost_reports_hold = record {
  whole = record {
    times = times_paying;
    costs = costs_paying;
    total = λ b e. subst (λ (d : Bound). HoldsTotal paying d) (same_total both_inputs b e) totals_hold.both_inputs;
    sizes = sizes_paying;
  };
  first_less = λ h. costs_hold.entering_less (h.costs 1 (Constant 2) refl);
  second_less = λ h. costs_hold.rounds_less (h.costs 2 (Constant 6) refl);
  swapped = λ h. costs_hold.entering_by_other (h.costs 1 (Input 1) refl);
  total_of_steps = λ h. totals_hold.paying_by_steps (h.total (Constant 10) refl);
  total_of_first = λ h. totals_hold.first_alone (h.total (Input 0) refl);
  total_of_second = λ h. totals_hold.second_alone (h.total (Input 1) refl);
  reasons = record {
    times = times_paying;
    costs = none_costed;
    total = λ b e. absurd (no_total b e);
    sizes = sizes_paying;
  };
  lone_cost_less = λ h. costs_hold.entering_less (h.costs 1 (Constant 2) refl);
}
