use Rattle.its_graph.proofs.WorkedComponents.{components-are-worked-out}
use Rattle.its_graph.proofs.law.components_are_as_worked_out.Goals as goal

pub returns : goal.returns
returns c = components-are-worked-out
