use Rattle.std.proofs.Common.{◌≤◌, ◌∙◌, length, ap, arith}
use Rattle.model.specs.Bounds.{SumOf, Parts, Part}
use Rattle.bound_expr.specs.Views.{bound_of, bounds_of, parts_of}
use Rattle.bound_expr.proofs.Views.{bound_of-Sum}
use Rattle.size_nodes.specs.declared.growth.Growth.{Growth}
use Rattle.size_nodes.specs.Growths.{growth_of, addition_part}
use Rattle.size_nodes.proofs.JoinedParts.{parts_more, parts_done, joined-map}
use Rattle.size_nodes.proofs.loop_bound.sum.Goals as goal

pub loop-growth-preserved : goal.loop-growth-preserved
loop-growth-preserved g c =
    parts_more (λ (r : Growth). addition_part (g.K.Known.table c.args.known.now).time (growth_of r)) c.args.growths.now
    c.loop-growth.growth-index c.growth-item.result (parts_of (bounds_of c.loop-growth.parts.items))
    (parts_of (bounds_of c.push_addition.new.parts.items)) _ c.loop-growth-test.true c.growth-item.is
    c.loop-growth.invariant (c.in_ok-push_addition.ensures {u = tt})

pub returns : goal.returns
returns g c =
    let end : length c.args.growths.now ≤ c.loop-growth.growth-index = omega (arith, c.loop-growth-test.false) in
    bound_of-Sum c.loop-growth.parts ∙ ap SumOf
    (parts_done (λ (r : Growth). addition_part (g.K.Known.table c.args.known.now).time (growth_of r)) c.args.growths.now
    c.loop-growth.growth-index (parts_of (bounds_of c.loop-growth.parts.items)) _ end c.loop-growth.invariant
    ∙ ap (λ (ps : Parts). Part (bound_of c.args.base) ps)
    (joined-map (addition_part (g.K.Known.table c.args.known.now).time) growth_of c.args.growths.now))
