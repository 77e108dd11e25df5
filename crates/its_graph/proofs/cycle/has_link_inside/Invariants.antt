use Rattle.std.proofs.Common.{ℕ, ◌<◌, get_or}
use Rattle.std.specs.Prelude.{◌≢◌}
use Rattle.its_graph.proofs.PairLists.{no_pair}
use Rattle.its_graph.proofs.cycle.has_link_inside.Given as goal

-- none of the links so far leads to a node of the same number
abbrev pub invariant-loop-from : goal.invariant-loop-from
invariant-loop-from l = (k : ℕ) → k < l.from-index → get_or l.numbers (get_or l.links k no_pair).0 0 ≢ get_or l.numbers (get_or l.links k no_pair).1 0
