use Rattle.std.proofs.Common.{◌≡◌, ℕ, ◌+◌, sym, ◌∙◌, subst, true, false, Some, None, Option}
use Rattle.simplex_core.specs.Bland.{goes_before, is_candidate}
use Rattle.simplex_core.specs.Cells.{IsBestOf}
use Rattle.simplex_core.proofs.Leaving.{best-none, best-first, best-keeps, best-changes}
use Rattle.simplex_core.proofs.sparse_table.SparseTable.better.Goals as goal

pub returns-then-not-is_positive_at-clause-best : goal.returns-then-not-is_positive_at-clause-best
returns-then-not-is_positive_at-clause-best c p t shows =
    let fails : is_candidate t c.args.column c.args.row ≡ false = sym (c.is_positive_at.ensures p t shows) ∙ c.if-not-is_positive_at.true in
    keeps c.args.best fails
  where
    keeps : (o : Option ℕ) → is_candidate t c.args.column c.args.row ≡ false → IsBestOf p t c.args.column c.args.row o → IsBestOf p t c.args.column (c.args.row + 1) o
    keeps None fails best = best-none p t c.args.column c.args.row best fails
    keeps (Some r) fails best = best-keeps p t c.args.column c.args.row r best (λ e. cc)

pub returns-in-None-clause-best : goal.returns-in-None-clause-best
returns-in-None-clause-best c p t shows best =
    let passes : is_candidate t c.args.column c.args.row ≡ true = sym (c.is_positive_at.ensures p t shows) ∙ c.if-not-is_positive_at.false in
    best-first p t c.args.column c.args.row (subst (λ (o : Option ℕ). IsBestOf p t c.args.column c.args.row o) c.in-None.is best) passes

pub returns-then-goes_before-clause-best : goal.returns-then-goes_before-clause-best
returns-then-goes_before-clause-best c p t shows best =
    let passes : is_candidate t c.args.column c.args.row ≡ true = sym (c.is_positive_at.ensures p t shows) ∙ c.if-not-is_positive_at.false in
    let goes : goes_before p t c.args.column c.args.row c.in-Some.before ≡ true = sym (c.goes_before.ensures p t shows) ∙ c.if-goes_before.true in
    best-changes p t c.args.column c.args.row c.in-Some.before (subst (λ (o : Option ℕ). IsBestOf p t c.args.column c.args.row o) c.in-Some.is best) passes goes

pub returns-else-goes_before-clause-best : goal.returns-else-goes_before-clause-best
returns-else-goes_before-clause-best c p t shows best =
    let stays : goes_before p t c.args.column c.args.row c.in-Some.before ≡ false = sym (c.goes_before.ensures p t shows) ∙ c.if-goes_before.false in
    best-keeps p t c.args.column c.args.row c.in-Some.before (subst (λ (o : Option ℕ). IsBestOf p t c.args.column c.args.row o) c.in-Some.is best) (λ _. stays)
