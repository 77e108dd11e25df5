-- the text is read line by line
use Rattle.report_text.proofs.OneReport.{one_report}
use Rattle.report_text.proofs.law.texts_state_one_report.Goals as goal

pub returns : goal.returns
returns c = one_report
