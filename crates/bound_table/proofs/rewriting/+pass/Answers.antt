use Rattle.std.proofs.Common.{take, List, ap, sym, ◌∙◌}
use Rattle.bound_expr.specs.model.Bounds.{Parts}
use Rattle.bound_expr.specs.declared.bound.Bound.{Bound}
use Rattle.bound_expr.specs.Views.{bound_of, bounds_of, parts_of}
use Rattle.bound_expr.specs.Views.{with_part}
use Rattle.bound_expr.proofs.Lists.{parts_of-push, parts_of-take_more}
use Rattle.bound_table.specs.Rewriting.{one_pass, one_pass_each}
use Rattle.bound_table.proofs.Passes.{one_pass_each-with_part}
use Rattle.bound_table.proofs.rewriting.+pass.Goals as goal

pub pass_each-loop-part-preserved : goal.pass_each-loop-part-preserved
pass_each-loop-part-preserved t c =
    let cs = c.args.cases.now in
    let x = c.part-item.result in
    let seen = parts_of (bounds_of (take c.loop-part.part-index c.args.parts.now)) in
    ap (λ (bs : List Bound). parts_of (bounds_of bs)) c.in_ok-push.ensures.items
    ∙ parts_of-push c.loop-part.outcomes.items c.in_ok-pass.field-0
    ∙ ap (with_part (parts_of (bounds_of c.loop-part.outcomes.items))) c.in_ok-pass.ensures
    ∙ ap (λ (bs : Parts). with_part bs (one_pass cs (bound_of x))) c.loop-part.invariant
    ∙ sym
    (ap (one_pass_each cs) (parts_of-take_more c.args.parts.now c.loop-part.part-index x c.loop-part-test.true c.part-item.is)
    ∙ one_pass_each-with_part cs seen (bound_of x))
