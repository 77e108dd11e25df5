use Rattle.std.proofs.Common.{ap, sym, ◌∙◌, List, refl, subst, arith}
use Rattle.std.proofs.lemmas.List.{take_all}
use Rattle.bound_expr.proofs.Views.{bound_of-Sum, bound_of-Prod, bound_of-Max}
use Rattle.bound_expr.specs.Views.{bound_of, bounds_of, parts_of}
use Rattle.bound_expr.specs.declared.bound.Bound.{Bound}
use Rattle.check_file.specs.Writables.{AreWritable}
use Rattle.check_file.proofs.WritableBounds.{writable-more, part-writable, sum-writable, product-writable, maximum-writable}
use Rattle.check_file.proofs.writable.+writable.Goals as goal

pub are_writable-returns-then-not-fits : goal.are_writable-returns-then-not-fits
are_writable-returns-then-not-fits t c = (
  λ e. absurd (let no : ⊥ = cc in no),
  λ h. absurd (let f = c.is_writable-fits.ensures.1 (part-writable c.args.inputs c.args.parts.now c.loop-part.part-index c.part-item.result
      c.loop-part-test.true c.part-item.is h) in let no : ⊥ = cc in no),
)

pub are_writable-loop-part-preserved : goal.are_writable-loop-part-preserved
are_writable-loop-part-preserved t c =
    writable-more c.args.inputs c.args.parts.now c.loop-part.part-index c.part-item.result c.loop-part-test.true c.part-item.is
    c.loop-part.invariant (c.is_writable-fits.ensures.0 c.if-not-fits.false)

pub are_writable-returns : goal.are_writable-returns
are_writable-returns t c = (
  λ e. subst (λ (ps : List Bound). AreWritable c.args.inputs (parts_of (bounds_of ps)))
      (take_all c.loop-part.part-index c.args.parts.now (omega (arith, c.loop-part-test.false))) c.loop-part.invariant,
  λ h. refl,
)

pub is_writable-returns-in-Sum : goal.is_writable-returns-in-Sum
is_writable-returns-in-Sum t c =
    let same = ap (λ (ps : List Bound). parts_of (bounds_of ps)) c.deref.ensures.value in
    let h = sum-writable c.args.inputs (bound_of c.args.bound.now) _ (ap bound_of c.in-Sum.is ∙ bound_of-Sum c.in-Sum.parts) in (
      λ e. h.0 (subst (AreWritable c.args.inputs) same (c.are_writable.ensures.0 e)),
      λ w. c.are_writable.ensures.1 (subst (AreWritable c.args.inputs) (sym same) (h.1 w)),
    )

pub is_writable-returns-in-Prod : goal.is_writable-returns-in-Prod
is_writable-returns-in-Prod t c =
    let same = ap (λ (ps : List Bound). parts_of (bounds_of ps)) c.deref-in-Prod.ensures.value in
    let h = product-writable c.args.inputs (bound_of c.args.bound.now) _ (ap bound_of c.in-Prod.is ∙ bound_of-Prod c.in-Prod.parts) in (
      λ e. h.0 (subst (AreWritable c.args.inputs) same (c.are_writable-in-Prod.ensures.0 e)),
      λ w. c.are_writable-in-Prod.ensures.1 (subst (AreWritable c.args.inputs) (sym same) (h.1 w)),
    )

pub is_writable-returns-in-Max : goal.is_writable-returns-in-Max
is_writable-returns-in-Max t c =
    let same = ap (λ (ps : List Bound). parts_of (bounds_of ps)) c.deref-in-Max.ensures.value in
    let h = maximum-writable c.args.inputs (bound_of c.args.bound.now) _ (ap bound_of c.in-Max.is ∙ bound_of-Max c.in-Max.parts) in (
      λ e. h.0 (subst (AreWritable c.args.inputs) same (c.are_writable-in-Max.ensures.0 e)),
      λ w. c.are_writable-in-Max.ensures.1 (subst (AreWritable c.args.inputs) (sym same) (h.1 w)),
    )
