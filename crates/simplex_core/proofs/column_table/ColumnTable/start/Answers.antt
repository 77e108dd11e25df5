use Rattle.std.proofs.Common.{◌≡◌, ℕ, sym, subst, None}
use Rattle.simplex_core.specs.Search.{least}
use Rattle.simplex_core.specs.Bland.{may_enter}
use Rattle.simplex_core.proofs.Entering.{least-fails}
use Rattle.simplex_core.proofs.ColumnTableLaws.{none-enters}
use Rattle.simplex_core.proofs.column_table.ColumnTable.start.Goals as goal

pub returns-then-cost-eq0-clause-none : goal.returns-then-cost-eq0-clause-none
returns-then-cost-eq0-clause-none c p t shows =
    let table = c.args.self.now in
    let same : c.args.cost ≡ 0 = c.if-cost-eq0.true in
    subst (λ (k : ℕ). least table.first (may_enter p t k) ≡ None) (sym same)
    (least-fails table.first (may_enter p t 0) (λ j l. none-enters p table t j shows l))
