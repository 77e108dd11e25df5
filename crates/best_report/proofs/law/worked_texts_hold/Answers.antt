use Rattle.best_report.proofs.WorkedChoices.{choices_worked_out, stated_bounds_used, statements_found}
use Rattle.best_report.proofs.WorkedReports.{reports_worked_out}
use Rattle.best_report.proofs.WorkedSums.{sums_worked_out}
use Rattle.best_report.proofs.WorkedTexts.{texts_worked_out}
use Rattle.best_report.proofs.law.worked_texts_hold.Goals as goal

pub returns-clause-texts : goal.returns-clause-texts
returns-clause-texts c = texts_worked_out

pub returns-clause-choices : goal.returns-clause-choices
returns-clause-choices c = choices_worked_out

pub returns-clause-statements : goal.returns-clause-statements
returns-clause-statements c = statements_found

pub returns-clause-used : goal.returns-clause-used
returns-clause-used c = stated_bounds_used

pub returns-clause-sums : goal.returns-clause-sums
returns-clause-sums c = sums_worked_out

pub returns-clause-reports : goal.returns-clause-reports
returns-clause-reports c = reports_worked_out c.meanings_are_worked_out.ensures
