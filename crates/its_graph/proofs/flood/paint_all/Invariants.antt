use Rattle.std.proofs.Common.{◌≡◌, drop}
use Rattle.its_graph.specs.Floods.{Painting, all_painted}
use Rattle.its_graph.proofs.flood.paint_all.Given as goal

-- painting the remaining nodes from the current state gives the same state as painting all nodes from the first one
abbrev pub invariant-loop-node : goal.invariant-loop-node
invariant-loop-node l =
    let now : Painting = record { colors = l.colors; found = l.found.items } in
    let first : Painting = record { colors = l.fn.colors; found = l.fn.found.items } in
    all_painted l.fn.old l.fn.new (drop l.node-index l.nodes) now ≡ all_painted l.fn.old l.fn.new l.nodes first
