use Rattle.std.proofs.Common.{◌≡◌, ◌++◌, drop}
use Rattle.rvg_components.specs.Edges.{edges_to}
use Rattle.rvg_components.proofs.flowing.push_to.Given as goal

-- the edges so far and those of the remaining places are all
abbrev pub invariant-loop-place : goal.invariant-loop-place
invariant-loop-place l =
    l.edges.items ++ edges_to l.to l.before (drop l.place-index l.places) ≡ l.initial.edges.items ++ edges_to l.to l.before l.places
