use Rattle.std.proofs.Common.{◌≡◌, drop}
use Rattle.poly_terms.specs.model.Bounds.{Constant, Part}
use Rattle.bound_expr.specs.Views.{bounds_of, parts_of}
use Rattle.cert_program.specs.cert_rules.Composed.{parts_for, sizes_after}
use Rattle.cert_types.specs.Sizes.{joined}
use Rattle.cert_types.proofs.spreading.times_sizes.Given as goal

abbrev pub invariant-loop-variable : goal.invariant-loop-variable
invariant-loop-variable g l =
    joined (parts_of (bounds_of l.factors.items))
    (parts_for (sizes_after (g.K.Known.table l.known).size l.rule) (drop l.variable-index l.variables))
    ≡ Part (Constant l.n) (parts_for (sizes_after (g.K.Known.table l.known).size l.rule) l.variables)
