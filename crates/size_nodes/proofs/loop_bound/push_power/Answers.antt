use Rattle.std.proofs.Common.{nat_lt}
use Rattle.size_nodes.proofs.JoinedParts.{pushed_where, kept_where, less_decided, not_less_decided}
use Rattle.size_nodes.proofs.loop_bound.push_power.Goals as goal

pub returns-then-growth-le1 : goal.returns-then-growth-le1
returns-then-growth-le1 g c =
    kept_where (nat_lt 1 c.args.growth.now.factor) _ _ (not_less_decided 1 c.args.growth.now.factor c.if-growth-le1.true)

pub returns : goal.returns
returns g c =
    pushed_where (nat_lt 1 c.args.growth.now.factor) c.args.factors.now.items c.push.new.self.items c.in_ok-one.one _
    (less_decided 1 c.args.growth.now.factor c.if-growth-le1.false) c.in_ok-push.ensures.items c.in_ok-one.ensures
