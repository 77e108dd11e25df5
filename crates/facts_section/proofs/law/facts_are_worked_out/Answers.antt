use Rattle.facts_section.proofs.WorkedFacts.{facts_are_worked_out}
use Rattle.facts_section.proofs.law.facts_are_worked_out.Goals as goal

pub returns : goal.returns
returns c = facts_are_worked_out
