use Rattle.std.proofs.Common.{◌≡◌, ℕ, [], length}
use Rattle.its_graph.specs.Groups.{values_in}
use Rattle.its_graph.proofs.pairs.empty_lists.Given as goal

abbrev pub invariant-loop : goal.invariant-loop
invariant-loop l = (length l.lists.items ≡ l.counter) × ((a : ℕ) → values_in l.lists.items a ≡ [])
