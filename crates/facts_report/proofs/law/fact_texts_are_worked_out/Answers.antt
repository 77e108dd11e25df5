use Rattle.facts_report.proofs.WorkedFactTexts.{texts_worked}
use Rattle.facts_report.proofs.law.fact_texts_are_worked_out.Goals as goal

pub returns : goal.returns
returns c = texts_worked
