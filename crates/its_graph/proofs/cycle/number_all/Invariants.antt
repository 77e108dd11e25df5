use Rattle.std.proofs.Common.{◌≡◌, ℕ, ◌<◌, Contains, get_or}
use Rattle.its_graph.specs.Groups.{values_in}
use Rattle.its_graph.proofs.cycle.number_all.Given as goal

abbrev pub invariant-loop-number : goal.invariant-loop-number
invariant-loop-number l = (k b : ℕ) → k < l.number → Contains (values_in l.components k) b → get_or l.numbers b 0 ≡ k
