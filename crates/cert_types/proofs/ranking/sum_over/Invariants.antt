use Rattle.std.proofs.Common.{◌≡◌, drop}
use Rattle.bound_expr.specs.Views.{bounds_of, parts_of}
use Rattle.its_model.specs.Views.{program_of}
use Rattle.cert_program.specs.cert_rules.Composed.{parts_for, entry_bound}
use Rattle.cert_types.specs.Views.{rank_of}
use Rattle.cert_types.specs.Sizes.{joined}
use Rattle.cert_types.proofs.ranking.sum_over.Given as goal

abbrev pub invariant-loop-entry : goal.invariant-loop-entry
invariant-loop-entry g l =
    joined (parts_of (bounds_of l.parts.items))
    (parts_for (entry_bound (program_of l.p) (rank_of l.by.node.now) (g.K.Known.table l.known).time (g.K.Known.table l.known).size)
    (drop l.entry-index l.entering))
    ≡ parts_for (entry_bound (program_of l.p) (rank_of l.by.node.now) (g.K.Known.table l.known).time (g.K.Known.table l.known).size)
    l.entering
