use Rattle.std.proofs.Common.{◌≡◌, drop}
use Rattle.model.specs.Bounds.{Part}
use Rattle.bound_expr.specs.Views.{bound_of, bounds_of, parts_of}
use Rattle.cert_types.specs.Sizes.{joined}
use Rattle.size_nodes.specs.Growths.{growth_of, addition_part, all_joined}
use Rattle.size_nodes.proofs.loop_bound.sum.Given as goal

abbrev pub invariant-loop-growth : goal.invariant-loop-growth
invariant-loop-growth g l =
    joined (parts_of (bounds_of l.parts.items))
    (all_joined (λ r. addition_part (g.K.Known.table l.known).time (growth_of r)) (drop l.growth-index l.growths))
    ≡ Part (bound_of l.fn.base) (all_joined (λ r. addition_part (g.K.Known.table l.known).time (growth_of r)) l.growths)
