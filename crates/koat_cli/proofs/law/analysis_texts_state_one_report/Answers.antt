use Rattle.koat_cli.proofs.AnalysisTexts.{reports_are_determined}
use Rattle.koat_cli.proofs.law.analysis_texts_state_one_report.Goals as goal

pub returns : goal.returns
returns c = reports_are_determined
