use Rattle.std.proofs.Common.{◌≡◌, ◌≢◌, ℕ, ◌+◌, ◌<◌, ap, arith, sym, ◌∙◌, subst, ◌⊎◌, inl, inr, true, false, Some}
use Rattle.std.specs.Prelude.{nat_lt, ◌&&◌, slice_get}
use Rattle.std.proofs.lemmas.Bool.{and_parts, ltb-true}
use Rattle.std.proofs.lemmas.Option.{slice_get_within}
use Rattle.frac128.specs.declared.frac.Frac.{Frac}
use Rattle.linear_forms.specs.LinearProgram.{LinearProgram}
use Rattle.simplex_core.specs.Tableau.{Tableau}
use Rattle.simplex_core.specs.Bland.{may_enter}
use Rattle.simplex_core.specs.Cells.{Shows}
use Rattle.simplex_core.proofs.Invariant.{same_or_other}
use Rattle.simplex_core.proofs.Entering.{entering-found, entering-none}
use Rattle.simplex_core.proofs.sparse_table.SparseTable.least_entering.Goals as goal

pub returns-then-is_entering : goal.returns-then-is_entering
returns-then-is_entering c p t shows =
    let passes : c.is_entering.result ≡ true = c.if-is_entering.true in
    let both = and_parts (nat_lt c.entry-column.result.0 p.columns) (may_enter p t c.args.cost c.entry-column.result.0) (sym (c.is_entering.ensures p t shows) ∙ passes) in
    sym (entering-found p c.args.self.now t c.args.cost c.line-line.result.now shows c.requires c.line-line.ensures c.loop-index.index c.entry-column.result c.entry-column.ensures.row c.entry-column.ensures.is
    (c.loop-index.invariant.each p t shows) (ltb-true c.entry-column.result.0 p.columns both.0) both.1)

pub loop-index-preserved : goal.loop-index-preserved
loop-index-preserved c = record { each = λ p t shows k x l at. go p t shows k x l at (same_or_other k c.loop-index.index) }
  where
    go : (p : LinearProgram) (t : Tableau) → Shows p c.args.self.now t → (k : ℕ) (x : ℕ × Frac) → k < c.loop-index.index + 1
        → slice_get c.line-line.result.now k ≡ Some x → (k ≡ c.loop-index.index) ⊎ (k ≢ c.loop-index.index)
        → (nat_lt x.0 p.columns && may_enter p t c.args.cost x.0) ≡ false
    go p t shows k x l at (inl e) =
        let read = c.entry-column.ensures.is in
        let fails : c.is_entering.result ≡ false = c.if-is_entering.false in
        let same : Some c.entry-column.result ≡ Some x = sym read ∙ (ap (slice_get c.line-line.result.now) (sym e) ∙ at) in
        let one : c.entry-column.result ≡ x = cc in
        subst (λ (y : ℕ × Frac). (nat_lt y.0 p.columns && may_enter p t c.args.cost y.0) ≡ false) one (sym (c.is_entering.ensures p t shows) ∙ fails)
    go p t shows k x l at (inr d) = c.loop-index.invariant.each p t shows k x (omega arith) at

pub returns : goal.returns
returns c p t shows =
    let all = c.len-index-end.ensures.value in
    let end = c.loop-index-test.false in
    sym (entering-none p c.args.self.now t c.args.cost c.line-line.result.now shows c.requires c.line-line.ensures
    (λ k y at. let within = slice_get_within c.line-line.result.now k y at in c.loop-index.invariant.each p t shows k y (omega arith) at))
