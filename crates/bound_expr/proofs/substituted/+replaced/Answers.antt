use Rattle.std.proofs.Common.{rules, List, length, ap, sym, ◌∙◌}
use Rattle.model.specs.Bounds as plain
use Rattle.model.specs.Bounds.{Parts}
use Rattle.bound_expr.specs.Views.{bound_of, bounds_of, parts_of, with_part}
use Rattle.bound_expr.specs.Substitution.{substituted, all_substituted}
use Rattle.bound_expr.proofs.Steps.{seen}
use Rattle.bound_expr.specs.declared.bound.Bound.{Bound, the_lemmas}
use Rattle.bound_expr.proofs.Lists.{parts_of-push, parts_of-take_more, substituted-with_part, ReadsBelow-at}
use Rattle.bound_expr.proofs.substituted.+replaced.Goals as goal

pub all_replaced-replaced-requires : goal.all_replaced-replaced-requires
all_replaced-replaced-requires t c = (
  search (rules, the_lemmas),
  ReadsBelow-at (length c.args.sizes.now) c.args.parts.now c.loop-part.part-index c.part-item.result c.requires
      c.loop-part-test.true c.part-item.is,
)

pub all_replaced-loop-part-preserved : goal.all_replaced-loop-part-preserved
all_replaced-loop-part-preserved t c =
    let sizes = bounds_of c.args.sizes.now in
    let x = c.part-item.result in
    ap (λ (bs : List Bound). parts_of (bounds_of bs)) c.in_ok-push.ensures.items
    ∙ parts_of-push c.loop-part.outcomes.items c.in_ok-replaced.field-0
    ∙ ap (λ (b : plain.Bound). with_part (parts_of (bounds_of c.loop-part.outcomes.items)) b) c.in_ok-replaced.ensures
    ∙ ap (λ (bs : Parts). with_part bs (substituted (bound_of x) sizes)) c.loop-part.invariant
    ∙ sym
    (ap (λ (bs : Parts). all_substituted bs sizes) (parts_of-take_more c.args.parts.now c.loop-part.part-index x c.loop-part-test.true c.part-item.is)
    ∙ substituted-with_part (seen c.args.parts.now c.loop-part.part-index) (bound_of x) sizes)
