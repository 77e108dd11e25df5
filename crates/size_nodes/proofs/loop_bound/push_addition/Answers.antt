use Rattle.size_nodes.proofs.JoinedParts.{pushed_where, kept_where}
use Rattle.size_nodes.proofs.loop_bound.push_addition.Goals as goal

pub returns-then-not-growth : goal.returns-then-not-growth
returns-then-not-growth g c = kept_where c.args.growth.now.adds _ _ c.if-not-growth.true

pub returns : goal.returns
returns g c =
    pushed_where c.args.growth.now.adds c.args.parts.now.items c.push.new.self.items c.in_ok-one.one _ c.if-not-growth.false
    c.in_ok-push.ensures.items c.in_ok-one.ensures
