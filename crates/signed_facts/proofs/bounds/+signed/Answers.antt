-- The signed bounds of the parts so far are those of the parts of the bound.
use Rattle.std.proofs.Common.{List, ap, sym, ◌∙◌}
use Rattle.bound_expr.specs.Views.{bound_of}
use Rattle.bound_expr.proofs.Lists.{parts_of-take_more as plain_parts-take_more}
use Rattle.bound_expr.proofs.Steps.{seen}
use Rattle.signed_bounds.specs.poly_terms.model.Bounds as plain
use Rattle.signed_bounds.specs.Bounds as signed
use Rattle.signed_bounds.specs.Bounds.{SignedParts}
use Rattle.signed_bounds.specs.Inputs.{signed_of_bound, signed_of_parts}
use Rattle.signed_bounds.specs.Views.{signeds_of, parts_of, with_part}
use Rattle.signed_bounds.specs.declared.signed.Signed.{Signed}
use Rattle.signed_bounds.proofs.PartLoops.{parts_of-push}
use Rattle.signed_facts.proofs.PartLoops.{signed-with_part}
use Rattle.signed_facts.proofs.bounds.+signed.Goals as goal

pub signed_parts-loop-part-preserved : goal.signed_parts-loop-part-preserved
signed_parts-loop-part-preserved t c =
    let x = c.part-item.result in
    ap (λ (bs : List Signed). parts_of (signeds_of bs)) c.in_ok-push.ensures.items
    ∙ parts_of-push c.loop-part.converted.items c.in_ok-signed_bound.field-0
    ∙ ap (λ (b : signed.Signed). with_part (parts_of (signeds_of c.loop-part.converted.items)) b)
    c.in_ok-signed_bound.ensures
    ∙ ap (λ (bs : SignedParts). with_part bs (signed_of_bound (bound_of x))) c.loop-part.invariant
    ∙ sym
    (ap (λ (bs : plain.Parts). signed_of_parts bs)
    (plain_parts-take_more c.args.parts.now c.loop-part.part-index x c.loop-part-test.true c.part-item.is)
    ∙ signed-with_part (seen c.args.parts.now c.loop-part.part-index) (bound_of x))
