use Rattle.std.proofs.Common.{ℕ, ◌<◌, All, Contains, length}
use Rattle.its_graph.proofs.roots.roots_of.Given as goal

abbrev pub invariant-loop-node : goal.invariant-loop-node
invariant-loop-node l = record {
  within : All (λ a. a < length l.next) l.roots.items;
  all : (a : ℕ) → a < l.node → Contains l.roots.items a;
}
