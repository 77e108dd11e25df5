use Rattle.std.proofs.Common.{◌≡◌, List, ap, subst, sym, ◌∙◌}
use Rattle.bound_expr.specs.declared.bound.Bound.{Bound}
use Rattle.bound_expr.specs.Numbers.{ReadsBelow, AllReadBelow}
use Rattle.bound_expr.specs.Views.{bound_of, bounds_of, parts_of}
use Rattle.bound_expr.proofs.Views.{bound_of-Sum, bound_of-Prod, bound_of-Max}
use Rattle.reading_tests.proofs.over_first.+read_bounds.Goals as goal

pub reads_below-returns-in-Sum : goal.reads_below-returns-in-Sum
reads_below-returns-in-Sum t c =
    let same = ap (λ (ps : List Bound). parts_of (bounds_of ps)) c.deref.ensures.value in
    λ e. subst (ReadsBelow c.args.n) (sym (ap bound_of c.in-Sum.is ∙ bound_of-Sum c.in-Sum.parts))
    (tt, subst (AllReadBelow c.args.n) same (c.all_read_below.ensures e))

pub reads_below-returns-in-Prod : goal.reads_below-returns-in-Prod
reads_below-returns-in-Prod t c =
    let same = ap (λ (ps : List Bound). parts_of (bounds_of ps)) c.deref-in-Prod.ensures.value in
    λ e. subst (ReadsBelow c.args.n) (sym (ap bound_of c.in-Prod.is ∙ bound_of-Prod c.in-Prod.factors))
    (tt, subst (AllReadBelow c.args.n) same (c.all_read_below-in-Prod.ensures e))

pub reads_below-returns-in-Max : goal.reads_below-returns-in-Max
reads_below-returns-in-Max t c =
    let same = ap (λ (ps : List Bound). parts_of (bounds_of ps)) c.deref-in-Max.ensures.value in
    λ e. subst (ReadsBelow c.args.n) (sym (ap bound_of c.in-Max.is ∙ bound_of-Max c.in-Max.parts))
    (tt, subst (AllReadBelow c.args.n) same (c.all_read_below-in-Max.ensures e))
