use Rattle.std.proofs.Common.{◌+◌, ◌||◌, drop, List, ap, sym, ◌∙◌}
use Rattle.std.specs.List.{list_any}
use Rattle.bound_expr.specs.declared.bound.Bound.{Bound}
use Rattle.bound_expr.specs.Views.{bound_of, bounds_of}
use Rattle.bound_table.specs.Below.{below}
use Rattle.bound_table.proofs.Dominances.{below_another-split, take-rest}
use Rattle.bound_table.proofs.dominance.is_below_another.Goals as goal

pub returns-then-any_above : goal.returns-then-any_above
returns-then-any_above c =
    let behind =
    list_any (λ q. below (bound_of c.index-parts-position.result) q) (bounds_of (drop (c.args.position + 1) c.args.parts.now)) in
    c.if-any_above.true
    ∙ sym
    (below_another-split c.args.parts.now c.args.position c.index-parts-position.result c.requires c.index-parts-position.is
    ∙ ap (λ b. b || behind) (sym c.any_above.ensures ∙ c.if-any_above.true))

pub returns-else-any_above : goal.returns-else-any_above
returns-else-any_above c =
    let x = bound_of c.index-parts-position.result in
    let behind = list_any (λ q. below x q) (bounds_of (drop (c.args.position + 1) c.args.parts.now)) in
    c.any_above-else-any_above.ensures
    ∙ ap (λ (ps : List Bound). list_any (λ q. below x q) (bounds_of ps))
    (take-rest c.args.parts.now (c.args.position + 1))
    ∙ sym
    (below_another-split c.args.parts.now c.args.position c.index-parts-position.result c.requires c.index-parts-position.is
    ∙ ap (λ b. b || behind) (sym c.any_above.ensures ∙ c.if-any_above.false))
