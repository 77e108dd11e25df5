use Rattle.std.proofs.Common.{◌≡◌, drop}
use Rattle.bound_expr.specs.Views.{bounds_of, parts_of}
use Rattle.cert_types.specs.Sizes.{joined}
use Rattle.size_nodes.specs.Growths.{growth_of, power_part, all_joined}
use Rattle.size_nodes.proofs.loop_bound.powers.Given as goal

abbrev pub invariant-loop-growth : goal.invariant-loop-growth
invariant-loop-growth g l =
    joined (parts_of (bounds_of l.factors.items))
    (all_joined (λ r. power_part (g.K.Known.table l.known).time (growth_of r)) (drop l.growth-index l.growths))
    ≡ all_joined (λ r. power_part (g.K.Known.table l.known).time (growth_of r)) l.growths
