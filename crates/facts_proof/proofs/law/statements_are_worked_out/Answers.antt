use Rattle.facts_proof.proofs.WorkedStatements.{statements_are_worked_out}
use Rattle.facts_proof.proofs.law.statements_are_worked_out.Goals as goal

pub returns : goal.returns
returns c = statements_are_worked_out
