use Rattle.std.proofs.Common.{◌≡◌}
use Rattle.model.specs.Programs.{Program}
use Rattle.its_graph.specs.Graphs.{IsGraphOf}
use Rattle.rvg_components.specs.Edges.{edges_below}
use Rattle.rvg_components.specs.Fitting.{flow_inputs_of}
use Rattle.rvg_components.proofs.flowing.edges_of.Given as goal

-- the edges are those into the places of the rules so far
abbrev pub invariant-loop-position : goal.invariant-loop-position
invariant-loop-position l = (p : Program) → IsGraphOf l.g p
    → l.edges.items ≡ edges_below p (flow_inputs_of l.prepared_rules l.locals l.live l.firsts) l.position
