use Rattle.std.proofs.Common.{arith}
use Rattle.its_graph.proofs.PairLists.{none-inside}
use Rattle.its_graph.proofs.cycle.has_link_inside.Goals as goal

pub returns : goal.returns
returns c = (λ e. absurd (cc), λ inside. absurd (none-inside c.args.numbers.now c.args.links.now (λ k low. c.loop-from.invariant k (omega arith)) inside))
