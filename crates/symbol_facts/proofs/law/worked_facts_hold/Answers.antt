use Rattle.symbol_facts.proofs.WorkedFacts.{facts_worked}
use Rattle.symbol_facts.proofs.law.worked_facts_hold.Goals as goal

pub returns : goal.returns
returns c = facts_worked
