use Rattle.std.proofs.Common.{◌≡◌, ℕ, ◌==◌, ◌&&◌, ◌||◌, Bool, false, List, refl, eq-eqb, ap, sym, ◌∙◌}
use Rattle.std.proofs.Common.{arith}
use Rattle.std.specs.Prelude.{replicate}
use Rattle.std.specs.List.{list_any, list_all}
use Rattle.bound_expr.specs.model.Bounds.{Bound, Constant}
use Rattle.std.proofs.lemmas.Bool.{ne_eqb}
use Rattle.std.proofs.lemmas.List.{length-map}
use Rattle.bound_expr.proofs.Views.{bound_of-Const}
use Rattle.bound_expr.specs.Views.{bound_of, bounds_of}
use Rattle.bound_table.specs.Kinds.{is_same_input}
use Rattle.bound_table.specs.Below.{below, below_one, match_in_order, matched, term_below}
use Rattle.bound_table.specs.Taking.{marked, input_among}
use Rattle.bound_table.proofs.BelowLevels.{bounds_weight, factors_weight, factors_of-weight, terms_of-weight}
use Rattle.bound_table.proofs.BelowCases.{below-constant, below-maximum, below-kinds, IsNoMaximum-kinds}
use Rattle.bound_table.proofs.BelowCases.{match_in_order-none, bounds_weight-maximum, loop-found, loop-unfound}
use Rattle.bound_table.proofs.Takes.{taken-none, or-false, marked-IsMarked}
use Rattle.bound_table.proofs.Loops.{bounds_weight-at, factors_weight-at, bounds_of-drop_all}
use Rattle.bound_table.proofs.lower.+below.Invariants.{beneath}
use Rattle.bound_table.proofs.lower.+below.Goals as goal

pub all_below-is_below-requires : goal.all_below-is_below-requires
all_below-is_below-requires t c = (
  omega (
    arith,
    bounds_weight-at c.args.parts.now c.loop-part.part-index c.part-item.result c.loop-part-test.true
        c.part-item.is,
  ),
  tt,
)

pub any_above-is_below-requires : goal.any_above-is_below-requires
any_above-is_below-requires t c = (
  omega (
    arith,
    bounds_weight-at c.args.parts.now c.loop-part.part-index c.part-item.result c.loop-part-test.true
        c.part-item.is,
  ),
  tt,
)

pub factors_below-still_left-after-requires : goal.factors_below-still_left-after-requires
factors_below-still_left-after-requires t c = (
  omega (
    arith,
    c.loop-other.invariant.light,
    factors_weight-at c.args.others.now c.loop-other.other-index c.other-item.result c.loop-other-test.true
        c.other-item.is,
  ),
  tt,
)

pub factors_below-inputs_taken-requires : goal.factors_below-inputs_taken-requires
factors_below-inputs_taken-requires t c =
    let ts = matched beneath (bounds_of c.args.factors.now) (bounds_of c.args.others.now) in
    let left = bounds_of c.loop-other.left.now in
    let none = bounds_of-drop_all c.args.others.now c.loop-other.other-index c.loop-other-test.false in
    let marks : c.loop-other.marks ≡ marked (replicate 128 false) ts =
    sym (ap (λ (qs : List Bound). marked c.loop-other.marks (matched beneath left qs)) none ∙ ap (marked c.loop-other.marks) (taken-none beneath left))
    ∙ c.loop-other.invariant.marks in
    (omega arith, marked-IsMarked 128 c.loop-other.marks ts marks)

pub factors_below-returns-then-not-is_empty : goal.factors_below-returns-then-not-is_empty
factors_below-returns-then-not-is_empty t c =
    loop-unfound beneath c.loop-other.left.now _ (bounds_of c.args.factors.now) (bounds_of c.args.others.now)
    (bounds_of-drop_all c.args.others.now c.loop-other.other-index c.loop-other-test.false)
    c.loop-other.invariant.found (sym c.is_empty.ensures ∙ c.if-not-is_empty.true)

pub factors_below-returns-then-not-fit : goal.factors_below-returns-then-not-fit
factors_below-returns-then-not-fit t c =
    let ps = bounds_of c.args.factors.now in
    let qs = bounds_of c.args.others.now in
    let among = list_all (input_among (matched beneath ps qs)) qs in
    sym (ap (λ (v : Bool). v && among) c.if-not-fit.true)
    ∙ loop-found beneath c.loop-other.left.now _ ps qs c.loop-other.fit among
    (bounds_of-drop_all c.args.others.now c.loop-other.other-index c.loop-other-test.false)
    c.loop-other.invariant.found (sym c.is_empty.ensures ∙ c.if-not-is_empty.false) c.loop-other.invariant.fit refl

pub factors_below-returns : goal.factors_below-returns
factors_below-returns t c =
    sym (ap (λ (v : Bool). v && c.inputs_taken.result) c.if-not-fit.false)
    ∙ loop-found beneath c.loop-other.left.now _ (bounds_of c.args.factors.now) (bounds_of c.args.others.now)
    c.loop-other.fit c.inputs_taken.result
    (bounds_of-drop_all c.args.others.now c.loop-other.other-index c.loop-other-test.false)
    c.loop-other.invariant.found (sym c.is_empty.ensures ∙ c.if-not-is_empty.false) c.loop-other.invariant.fit
    c.inputs_taken.ensures

pub is_among_taken-still_left-after-requires : goal.is_among_taken-still_left-after-requires
is_among_taken-still_left-after-requires t c = (
  omega (
    arith,
    c.loop-other.invariant.light,
    factors_weight-at c.args.others.now c.loop-other.other-index c.other-item.result c.loop-other-test.true
        c.other-item.is,
  ),
  tt,
)

pub is_among_taken-returns : goal.is_among_taken-returns
is_among_taken-returns t c =
    let left = bounds_of c.loop-other.left.now in
    let same = is_same_input (bound_of c.args.input.now) in
    let none = bounds_of-drop_all c.args.others.now c.loop-other.other-index c.loop-other-test.false in
    sym (ap (λ (qs : List Bound). c.loop-other.found || list_any same (matched beneath left qs)) none
    ∙ ap (λ (ts : List Bound). c.loop-other.found || list_any same ts) (taken-none beneath left)
    ∙ or-false c.loop-other.found)
    ∙ c.loop-other.invariant.found

pub is_below-all_below-requires : goal.is_below-all_below-requires
is_below-all_below-requires t c =
    let items = ap (λ bs. bounds_weight (bounds_of bs)) c.deref.ensures.value in
    (omega (arith, items, bounds_weight-maximum c.args.a.now c.in-Max.parts c.in-Max.is), tt)

pub is_below-returns-in-Max : goal.is_below-returns-in-Max
is_below-returns-in-Max t c =
    c.all_below.ensures
    ∙ ap (λ bs. list_all (λ p. below p (bound_of c.args.b.now)) (bounds_of bs)) c.deref.ensures.value
    ∙ sym (below-maximum c.args.a.now c.in-Max.parts (bound_of c.args.b.now) c.in-Max.is)

pub is_term_below-factors_below-requires : goal.is_term_below-factors_below-requires
is_term_below-factors_below-requires t c = (
  omega (
    arith,
    ap factors_weight c.term_of-lesser.ensures.factors,
    ap factors_weight c.term_of-greater.ensures.factors,
    factors_of-weight (bound_of c.args.part.now),
    factors_of-weight (bound_of c.args.other.now),
  ),
  tt,
)

pub one_below-any_above-requires : goal.one_below-any_above-requires
one_below-any_above-requires t c =
    let items = ap (λ bs. bounds_weight (bounds_of bs)) c.deref.ensures.value in
    (omega (arith, items, bounds_weight-maximum c.args.b.now c.in-Max.parts c.in-Max.is), tt)

pub one_below-terms_below-requires : goal.one_below-terms_below-requires
one_below-terms_below-requires t c = (
  omega (
    arith,
    ap factors_weight c.terms_of.ensures,
    ap factors_weight c.terms_of-in-Const.ensures,
    terms_of-weight (bound_of c.args.a.now) c.requires,
    terms_of-weight (bound_of c.args.b.now) (IsNoMaximum-kinds c.args.b.now c.in-Const.is),
  ),
  tt,
)

pub terms_below-still_left-left-requires : goal.terms_below-still_left-left-requires
terms_below-still_left-left-requires t c = (
  omega (
    arith,
    c.loop-other.invariant.1,
    factors_weight-at c.args.others.now c.loop-other.other-index c.other-item.result c.loop-other-test.true
        c.other-item.is,
  ),
  tt,
)

pub terms_below-returns : goal.terms_below-returns
terms_below-returns t c =
    let related = term_below (λ p q. below p q) in
    let left = bounds_of c.loop-other.left.now in
    let none = bounds_of-drop_all c.args.others.now c.loop-other.other-index c.loop-other-test.false in
    c.is_empty.ensures
    ∙ ap (λ (n : ℕ). n == 0) (sym (length-map c.loop-other.left.now bound_of))
    ∙ sym (match_in_order-none related left)
    ∙ sym (ap (λ (rest : List Bound). match_in_order related left rest) none)
    ∙ c.loop-other.invariant.0

pub is_below-returns-then-c-eq0 : goal.is_below-returns-then-c-eq0
is_below-returns-then-c-eq0 t c =
    let n = c.in-Const.c in
    sym (ap (λ s. below s (bound_of c.args.b.now)) (ap bound_of c.in-Const.is ∙ bound_of-Const n)
    ∙ below-constant n (bound_of c.args.b.now)
    ∙ ap (λ v. v || below_one (λ p q. below p q) (Constant n) (bound_of c.args.b.now)) (eq-eqb n 0 c.if-c-eq0.true)
    ∙ sym (eq-eqb n 0 c.if-c-eq0.true))

pub is_below-returns-else-c-eq0 : goal.is_below-returns-else-c-eq0
is_below-returns-else-c-eq0 t c =
    let n = c.in-Const.c in
    let same = ap bound_of c.in-Const.is ∙ bound_of-Const n in
    c.one_below.ensures
    ∙ ap (λ s. below_one (λ p q. below p q) s (bound_of c.args.b.now)) same
    ∙ sym (ap (λ s. below s (bound_of c.args.b.now)) same
    ∙ below-constant n (bound_of c.args.b.now)
    ∙ ap (λ v. v || below_one (λ p q. below p q) (Constant n) (bound_of c.args.b.now)) (ne_eqb n 0 c.if-c-eq0.false))

pub is_below-returns-in-Var : goal.is_below-returns-in-Var
is_below-returns-in-Var t c =
    c.one_below-in-Var.ensures ∙ sym (below-kinds c.args.a.now (bound_of c.args.b.now) c.in-Var.is)
