use Rattle.rvg_components.proofs.WorkedFlows.{components-sound}
use Rattle.rvg_components.proofs.laws.flows_are_as_worked_out.Goals as goal

pub returns-clause-components : goal.returns-clause-components
returns-clause-components c = components-sound c.components_are_as_worked_out.ensures.listings
