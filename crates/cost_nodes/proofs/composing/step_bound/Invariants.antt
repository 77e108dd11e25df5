use Rattle.std.proofs.Common.{◌≡◌, drop}
use Rattle.bound_expr.specs.Views.{bounds_of, parts_of}
use Rattle.cert_types.specs.Composing.{optional_poly}
use Rattle.cert_types.specs.Sizes.{joined}
use Rattle.cert_types.specs.Views.{side_bound_of}
use Rattle.cert_types.specs.cert_rules.Composed.{parts_for, sizes_after}
use Rattle.cert_types.specs.cert_rules.ComposedSizes.{composed_side_bound}
use Rattle.cost_nodes.proofs.composing.step_bound.Given as goal

-- What is done and what is left are all.
abbrev pub invariant-loop-rule : goal.invariant-loop-rule
invariant-loop-rule g l =
    joined (parts_of (bounds_of l.parts.items))
    (parts_for (λ e. composed_side_bound (optional_poly l.poly) (side_bound_of l.side_bound) (sizes_after (g.K.Known.table l.known).size e))
    (drop l.rule-index l.before))
    ≡ parts_for (λ e. composed_side_bound (optional_poly l.poly) (side_bound_of l.side_bound) (sizes_after (g.K.Known.table l.known).size e)) l.before
