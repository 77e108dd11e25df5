use Rattle.std.proofs.Common.{◌≡◌, drop, map}
use Rattle.potential_nodes.specs.PlainPeaks.{size_by}
use Rattle.potential_types.specs.Views.{fact_view}
use Rattle.check_potentials.proofs.sized.size_by.Given as goal

-- what is left decides
abbrev pub invariant-loop-number : goal.invariant-loop-number
invariant-loop-number l =
    size_by (map fact_view l.facts) (drop l.number-index l.cited) l.before l.place
    ≡ size_by (map fact_view l.facts) l.cited l.before l.place
