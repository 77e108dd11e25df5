use Rattle.bound_fixpoint.proofs.UniformComponents.{uniform_components}
use Rattle.bound_fixpoint.proofs.components_are_uniform.Goals as goal

pub returns : goal.returns
returns c = uniform_components
