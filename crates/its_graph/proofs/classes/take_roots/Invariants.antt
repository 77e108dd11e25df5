use Rattle.std.proofs.Common.{◌≡◌, ℕ, ◌<◌, get_or}
use Rattle.its_graph.specs.declared.flood.TheConstants.{KNOWN}
use Rattle.its_graph.specs.Groups.{Joins}
use Rattle.its_graph.specs.Classes.{AreClasses}
use Rattle.its_graph.proofs.classes.take_roots.Given as goal

-- the known nodes are whole components, and the roots so far are known
abbrev pub invariant-loop-root : goal.invariant-loop-root
invariant-loop-root l = record {
  classes : AreClasses (Joins l.next) l.colors l.names;
  done : (k : ℕ) → k < l.root-index → get_or l.colors (get_or l.roots k 0) 0 ≡ KNOWN;
}
