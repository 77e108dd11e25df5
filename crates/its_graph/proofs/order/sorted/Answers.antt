use Rattle.its_graph.proofs.Sorting.{begins}
use Rattle.its_graph.proofs.AllLeadersListed.{all_listed}
use Rattle.its_graph.proofs.order.sorted.Goals as goal

pub settle_all-requires-clause-sorting : goal.settle_all-requires-clause-sorting
settle_all-requires-clause-sorting c = begins c.args.needs.now c.args.leaders.now c.args.own.now c.in_ok-sorting.sorting c.in_ok-sorting.ensures c.requires.own_leaders

pub returns : goal.returns
returns c = all_listed c.args.needs.now c.args.leaders.now c.loop-leader.sorting c.requires.orderable c.loop-leader.invariant c.in_default.ensures
