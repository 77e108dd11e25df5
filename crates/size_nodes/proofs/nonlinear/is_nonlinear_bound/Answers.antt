use Rattle.std.proofs.Common.{map, sym, ◌∙◌}
use Rattle.std.proofs.lemmas.Bool.{or_left}
use Rattle.cert_types.specs.Composing.{optional_poly}
use Rattle.cert_types.specs.Views.{side_bound_of, member_of}
use Rattle.size_nodes.specs.NonlinearSideBounds.{is_nonlinear_side_bound}
use Rattle.size_nodes.proofs.NonlinearMembers.{same-nonlinear, other-decides}
use Rattle.size_nodes.proofs.nonlinear.is_nonlinear_bound.Goals as goal

pub returns-then-is_nonlinear : goal.returns-then-is_nonlinear
returns-then-is_nonlinear c =
    let q = optional_poly c.args.poly in
    let ms = map member_of c.args.cycle.now.members.now in
    let inside = map member_of c.after-inside.result.now in
    let local = c.args.local.now in
    c.if-is_nonlinear.true ∙ sym (or_left (is_nonlinear_side_bound q ms (side_bound_of local.up) c.args.rule) (is_nonlinear_side_bound q ms (side_bound_of local.low) c.args.rule)
    (sym (c.is_nonlinear.ensures ∙ same-nonlinear q inside ms (side_bound_of local.up) c.args.rule c.after-inside.ensures)
    ∙ c.if-is_nonlinear.true))

pub returns-else-is_nonlinear : goal.returns-else-is_nonlinear
returns-else-is_nonlinear c =
    let q = optional_poly c.args.poly in
    let ms = map member_of c.args.cycle.now.members.now in
    let inside = map member_of c.after-inside.result.now in
    let local = c.args.local.now in
    other-decides c.is_nonlinear-else-is_nonlinear.result (is_nonlinear_side_bound q ms (side_bound_of local.up) c.args.rule)
    (is_nonlinear_side_bound q ms (side_bound_of local.low) c.args.rule)
    (sym (c.is_nonlinear.ensures ∙ same-nonlinear q inside ms (side_bound_of local.up) c.args.rule c.after-inside.ensures)
    ∙ c.if-is_nonlinear.false)
    (c.is_nonlinear-else-is_nonlinear.ensures
    ∙ same-nonlinear q inside ms (side_bound_of local.low) c.args.rule c.after-inside.ensures)
