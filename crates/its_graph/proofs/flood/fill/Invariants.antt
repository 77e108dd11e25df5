use Rattle.std.proofs.Common.{◌+◌, ◌-◌, length}
use Rattle.its_graph.specs.Groups.{Joins}
use Rattle.its_graph.proofs.PaintedNodes.{left}
use Rattle.its_graph.proofs.Filling.{IsFilling}
use Rattle.its_graph.proofs.flood.fill.Given as goal

abbrev pub invariant-loop-done : goal.invariant-loop-done
invariant-loop-done l = IsFilling (Joins l.next) l.fn.colors l.fn.start l.fn.old l.fn.new (record { colors = l.colors; found = l.found.items }) l.done

-- The number of nodes of the old colour and of those found but not visited.
abbrev pub decreases-loop-done : goal.decreases-loop-done
decreases-loop-done l = left l.fn.old l.colors + length l.found.items - l.done
