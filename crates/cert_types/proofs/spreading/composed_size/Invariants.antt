use Rattle.std.proofs.Common.{◌≡◌, drop}
use Rattle.bound_expr.specs.Views.{bounds_of, parts_of}
use Rattle.cert_program.specs.cert_rules.Composed.{parts_for}
use Rattle.cert_types.specs.Views.{local_of}
use Rattle.cert_types.specs.Composing.{optional_poly, both_side_bounds}
use Rattle.cert_types.specs.Sizes.{joined}
use Rattle.cert_types.proofs.spreading.composed_size.Given as goal

abbrev pub invariant-loop-rule : goal.invariant-loop-rule
invariant-loop-rule g l =
    joined (parts_of (bounds_of l.parts.items))
    (parts_for (both_side_bounds (optional_poly l.poly) (local_of l.local) (g.K.Known.table l.known).size) (drop l.rule-index l.before))
    ≡ parts_for (both_side_bounds (optional_poly l.poly) (local_of l.local) (g.K.Known.table l.known).size) l.before
