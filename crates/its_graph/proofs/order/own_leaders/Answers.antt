use Rattle.std.proofs.Common.{◌≡◌, ◌↔◌, ℕ, ◌<◌, Contains, get_or, arith, subst}
use Rattle.its_graph.proofs.OwnLeaders.{own-more}
use Rattle.its_graph.proofs.order.own_leaders.Goals as goal

pub loop-node-preserved : goal.loop-node-preserved
loop-node-preserved c = own-more c.args.leaders.now c.loop-node.own.items c.push_if_same.new.own.items c.loop-node.node c.loop-node.invariant c.in_ok-push_if_same.ensures

pub returns : goal.returns
returns c = λ q. subst (λ (i : ℕ). Contains c.loop-node.own.items q ↔ ((q < i) × (get_or c.args.leaders.now q 0 ≡ q))) (omega arith) (c.loop-node.invariant q)
