use Rattle.std.proofs.Common.{◌∙◌, arith}
use Rattle.bound_expr.proofs.Caps.{min-pow_turn}
use Rattle.bound_expr.proofs.capped.capped_power.Goals as goal
use Rattle.bound_expr.specs.Limits.{cap}

pub loop-rest-preserved : goal.loop-rest-preserved
loop-rest-preserved c = (
  min-pow_turn c.loop-rest.outcome c.loop-rest.square c.loop-rest.rest c.with_odd_factor-outcome.result
      c.capped_multiply-square.result cap
      c.with_odd_factor-outcome.ensures c.capped_multiply-square.ensures ∙ c.loop-rest.invariant.0,
  omega (arith, c.with_odd_factor-outcome.ensures),
)
