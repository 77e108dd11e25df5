use Rattle.std.proofs.Common.{◌≡◌, ◌++◌, drop}
use Rattle.guard_prep.specs.Views.{prepared_of}
use Rattle.rvg_components.specs.Edges.{edges_into}
use Rattle.rvg_components.proofs.flowing.push_into.Given as goal

-- the edges so far and those of the remaining places are all
abbrev pub invariant-loop-position : goal.invariant-loop-position
invariant-loop-position l =
    l.edges.items ++ edges_into (prepared_of l.prepared_rule) l.before l.first l.position (drop l.position l.answers)
    ≡ l.initial.edges.items ++ edges_into (prepared_of l.prepared_rule) l.before l.first 0 l.answers
