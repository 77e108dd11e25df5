use Rattle.std.proofs.Common.{◌+◌, take, drop, List, ap, sym, ◌∙◌, subst}
use Rattle.bound_expr.specs.model.Bounds as plain
use Rattle.bound_expr.specs.Views.{bounds_of}
use Rattle.bound_table.specs.Distribution.{IsSplit}
use Rattle.bound_table.proofs.Dominances.{take-rest}
use Rattle.bound_table.proofs.Splits.{ArePassed-turn, ArePassed-end}
use Rattle.bound_table.proofs.distribution.split_at_sum.Goals as goal

pub returns-then-is_sum : goal.returns-then-is_sum
returns-then-is_sum c =
    let xs = c.args.parts.now in
    let i = c.loop-position.position in
    let x = c.index-parts-position.result in
    let seen = bounds_of (take i xs) in
    let P : List plain.Bound → List plain.Bound → Type 0 = λ ps qs. IsSplit (bounds_of xs) seen ps qs in
    subst (λ (qs : List plain.Bound). P (bounds_of c.terms_of.result.now) qs)
    (sym (ap bounds_of (take-rest xs (i + 1))))
    (subst (λ (ps : List plain.Bound). P ps (bounds_of (drop (i + 1) xs))) (sym c.terms_of.ensures)
    (ArePassed-end xs i x c.loop-position-test.true c.index-parts-position.is
    (sym c.is_sum.ensures ∙ c.if-is_sum.true) c.loop-position.invariant))

pub loop-position-preserved : goal.loop-position-preserved
loop-position-preserved c =
    ArePassed-turn c.args.parts.now c.loop-position.position c.index-parts-position.result c.loop-position-test.true
    c.index-parts-position.is
    (sym c.is_sum.ensures ∙ c.if-is_sum.false) c.loop-position.invariant
