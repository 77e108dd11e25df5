use Rattle.std.proofs.Common.{◌≡◌, ℕ, length, take}
use Rattle.its_graph.specs.Groups.{values_in, values_of}
use Rattle.its_graph.proofs.pairs.grouped.Given as goal

abbrev pub invariant-loop-key : goal.invariant-loop-key
invariant-loop-key l = (length l.lists.items ≡ l.fn.count) × ((a : ℕ) → values_in l.lists.items a ≡ values_of (take l.key-index l.pairs) a)
