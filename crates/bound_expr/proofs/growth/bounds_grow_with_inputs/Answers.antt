use Rattle.bound_expr.proofs.Monotone.{grows}
use Rattle.bound_expr.proofs.growth.bounds_grow_with_inputs.Goals as goal

pub returns : goal.returns
returns c = grows
