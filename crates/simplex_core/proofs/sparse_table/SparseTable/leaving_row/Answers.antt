use Rattle.std.proofs.Common.{◌≡◌, ℕ, arith, subst}
use Rattle.simplex_core.specs.Cells.{IsBestOf}
use Rattle.simplex_core.proofs.sparse_table.SparseTable.leaving_row.Goals as goal

pub loop-row-preserved : goal.loop-row-preserved
loop-row-preserved c = record {
  within = c.better-best.ensures.within;
  best = λ p t shows. c.better-best.ensures.best p t shows (c.loop-row.invariant.best p t shows);
}

pub returns-clause-best : goal.returns-clause-best
returns-clause-best c p t shows =
    let rows = shows.rows in
    let done : c.loop-row.row ≡ p.rows = omega arith in
    subst (λ (m : ℕ). IsBestOf p t c.args.column m c.loop-row.best) done (c.loop-row.invariant.best p t shows)
