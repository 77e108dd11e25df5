use Rattle.std.proofs.Common.{ℕ, ◌<◌, take}
use Rattle.std.specs.List.{All}
use Rattle.measuring.proofs.graphs.are_edges_below.Given as goal

-- both ends of each edge before this one are below the number of nodes
abbrev pub invariant-loop-from : goal.invariant-loop-from
invariant-loop-from l = All (λ (e : ℕ × ℕ). (e.0 < l.nodes) × (e.1 < l.nodes)) (take l.from-index l.edges)
