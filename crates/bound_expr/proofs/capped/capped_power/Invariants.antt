use Rattle.std.proofs.Common.{◌≡◌, ◌*◌, ◌^◌, ◌≤◌, min}
use Rattle.bound_expr.proofs.capped.capped_power.Given as goal
use Rattle.bound_expr.specs.Limits.{cap}

-- the outcome so far times the power that is left is the whole power, up to the cap
abbrev pub invariant-loop-rest : goal.invariant-loop-rest
invariant-loop-rest l =
    (min (l.outcome * l.square ^ l.rest) cap ≡ min (l.fn.base ^ l.fn.exponent) cap) × (l.outcome ≤ cap)

abbrev pub decreases-loop-rest : goal.decreases-loop-rest
decreases-loop-rest l = l.rest
