use Rattle.outcome.proofs.WorkedReports.{entries_found, reports_hold, reasons_hold}
use Rattle.outcome.proofs.WorkedCosts.{spendings_worked_out, reports_bounded, reports_fit, cost_reports_hold}
use Rattle.outcome.proofs.reports_are_as_worked_out.Goals as goal

pub returns : goal.returns
returns c = record {
  entries = entries_found;
  reports = reports_hold;
  reasons = reasons_hold;
  spendings = spendings_worked_out;
  bounded = reports_bounded;
  fitting = reports_fit;
  costs = cost_reports_hold;
}
