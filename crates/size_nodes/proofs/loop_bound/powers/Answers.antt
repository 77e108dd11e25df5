use Rattle.std.proofs.Common.{◌≤◌, ◌∙◌, length, arith}
use Rattle.bound_expr.specs.Views.{bounds_of, parts_of}
use Rattle.size_nodes.specs.declared.growth.Growth.{Growth}
use Rattle.size_nodes.specs.Growths.{growth_of, power_part}
use Rattle.size_nodes.proofs.JoinedParts.{parts_more, parts_done, joined-map}
use Rattle.size_nodes.proofs.loop_bound.powers.Goals as goal

pub loop-growth-preserved : goal.loop-growth-preserved
loop-growth-preserved g c =
    parts_more (λ (r : Growth). power_part (g.K.Known.table c.args.known.now).time (growth_of r)) c.args.growths.now
    c.loop-growth.growth-index c.growth-item.result (parts_of (bounds_of c.loop-growth.factors.items))
    (parts_of (bounds_of c.push_power.new.factors.items)) _ c.loop-growth-test.true c.growth-item.is
    c.loop-growth.invariant (c.in_ok-push_power.ensures {u = tt})

pub returns : goal.returns
returns g c =
    let end : length c.args.growths.now ≤ c.loop-growth.growth-index = omega (arith, c.loop-growth-test.false) in
    parts_done (λ (r : Growth). power_part (g.K.Known.table c.args.known.now).time (growth_of r)) c.args.growths.now
    c.loop-growth.growth-index (parts_of (bounds_of c.loop-growth.factors.items)) _ end c.loop-growth.invariant
    ∙ joined-map (power_part (g.K.Known.table c.args.known.now).time) growth_of c.args.growths.now
