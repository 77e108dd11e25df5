use Rattle.std.proofs.Common.{◌≡◌, ◌≢◌, ℕ, ◌+◌, ◌<◌, ap, arith, sym, ◌∙◌, subst, ◌⊎◌, inl, inr, Some}
use Rattle.std.specs.Prelude.{slice_get}
use Rattle.std.proofs.lemmas.Option.{slice_get_within}
use Rattle.frac128.specs.declared.frac.Frac.{Frac}
use Rattle.frac128.specs.Zero.{zero}
use Rattle.sparse_rows.specs.Rows.{fraction_at}
use Rattle.sparse_rows.proofs.Listed.{entry-at, entry-or_zero}
use Rattle.simplex_core.specs.Sizes.{IsBelow}
use Rattle.simplex_core.proofs.Invariant.{same_or_other}
use Rattle.simplex_core.proofs.LineArithmetic.{zero-below}
use Rattle.simplex_core.proofs.sparse_table.lines.is_line_small.Goals as goal

pub returns-then-not-is_small : goal.returns-then-not-is_small
returns-then-not-is_small c = record {
  column = c.entry.result.0;
  large = λ below.
      c.if-not-is_small.ensures
      (subst (λ (f : Frac). IsBelow 31 f) (entry-at c.args.line.now c.loop-index.index c.entry.result c.entry.ensures.row c.entry.ensures.is) below);
}

pub loop-index-preserved : goal.loop-index-preserved
loop-index-preserved c = record { each = λ k x l at. go k x l at (same_or_other k c.loop-index.index) }
  where
    go : (k : ℕ) (x : ℕ × Frac) → k < c.loop-index.index + 1 → slice_get c.args.line.now k ≡ Some x
        → (k ≡ c.loop-index.index) ⊎ (k ≢ c.loop-index.index) → IsBelow 31 x.1
    go k x l at (inl e) =
        let read = c.entry.ensures.is in
        let same : Some c.entry.result ≡ Some x = sym read ∙ (ap (slice_get c.args.line.now) (sym e) ∙ at) in
        let one : c.entry.result ≡ x = cc in
        subst (λ (y : ℕ × Frac). IsBelow 31 y.1) one c.if-not-is_small.ensures
    go k x l at (inr d) = c.loop-index.invariant.each k x (omega arith) at

pub returns : goal.returns
returns c = record { each = λ j. go j (entry-or_zero c.args.line.now j) }
  where
    go : (j : ℕ) → ((k : ℕ) × (x : ℕ × Frac) × (slice_get c.args.line.now k ≡ Some x) × (x.0 ≡ j) × (fraction_at c.args.line.now j ≡ x.1))
        ⊎ (fraction_at c.args.line.now j ≡ zero) → IsBelow 31 (fraction_at c.args.line.now j)
    go j (inl (k, x, at, place, is)) =
        let within = slice_get_within c.args.line.now k x at in
        let all = c.len-index-end.ensures.value in
        let end = c.loop-index-test.false in
        subst (λ (f : Frac). IsBelow 31 f) (sym is) (c.loop-index.invariant.each k x (omega arith) at)
    go j (inr none) = subst (λ (f : Frac). IsBelow 31 f) (sym none) (zero-below 31 (omega arith))
