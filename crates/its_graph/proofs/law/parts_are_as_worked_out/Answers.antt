use Rattle.its_graph.proofs.WorkedParts.{parts-are-worked-out}
use Rattle.its_graph.proofs.law.parts_are_as_worked_out.Goals as goal

pub returns : goal.returns
returns c = parts-are-worked-out
