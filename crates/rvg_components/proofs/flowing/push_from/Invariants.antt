use Rattle.std.proofs.Common.{◌≡◌, ◌++◌, take}
use Rattle.rvg_components.specs.Edges.{edges_from}
use Rattle.rvg_components.proofs.flowing.push_from.Given as goal

-- the edges from the rules so far are appended
abbrev pub invariant-loop-first : goal.invariant-loop-first
invariant-loop-first l = l.edges.items ≡ l.initial.edges.items ++ edges_from l.place l.to (take l.first-index l.before)
