use Rattle.std.proofs.Common.{◌≡◌, ℕ, ap, sym, ◌∙◌, subst, refl, arith, length}
use Rattle.std.proofs.lemmas.Option.{slice_get_read, same_Some}
use Rattle.sparse_columns.specs.declared.column.Column.{Column}
use Rattle.sparse_columns.specs.Columns.{numerator}
use Rattle.simplex_core.specs.ColumnTables.{IsBestCell}
use Rattle.simplex_core.proofs.CellChoices.{best_cell-all}
use Rattle.simplex_core.proofs.ColumnTableLaws.{column-read}
use Rattle.simplex_core.proofs.column_table.ColumnTable.leaving_cell.Goals as goal

pub better-best-requires-clause-cell : goal.better-best-requires-clause-cell
better-best-requires-clause-cell c =
    let cell = c.cell-item.result in
    let column = c.index.result.now in
    let is = column-read c.args.self.now c.args.column column c.requires c.index.ensures in
    let at = slice_get_read c.before-cells.result.now (length c.before-cells.result.now) c.loop-cell.cell-index cell refl c.loop-cell-test.true c.cell-item.is in
    record {
      row = c.before-cells.ensures.lists.within c.loop-cell.cell-index cell at;
      number = λ x is_x.
          ap (λ (y : Column). numerator y cell.row) (sym (same_Some column x (sym is ∙ is_x)))
          ∙ (sym (c.cells.ensures cell.row) ∙ c.before-cells.ensures.lists.each c.loop-cell.cell-index cell at);
    }

pub loop-cell-preserved : goal.loop-cell-preserved
loop-cell-preserved c =
    let cell = c.cell-item.result in
    let cells = c.before-cells.result.now in
    let at = slice_get_read cells (length cells) c.loop-cell.cell-index cell refl c.loop-cell-test.true c.cell-item.is in
    record {
      own = c.better-best.ensures.within;
      best = λ p t shows. c.better-best.ensures.best p t cells c.loop-cell.cell-index shows at (c.loop-cell.invariant.best p t shows);
    }

pub returns : goal.returns
returns c =
    let column = c.index.result.now in
    let cells = c.before-cells.result.now in
    let is = column-read c.args.self.now c.args.column column c.requires c.index.ensures in
    let below = c.loop-cell-test.false in
    let end = c.loop-cell.auto.cell-index-end in
    let all : c.loop-cell.cell-index ≡ length cells = omega (arith, below, end) in
    record {
      within = c.loop-cell.invariant.own;
      best = λ p t shows. best_cell-all p c.args.self.now t c.args.column column cells _ c.loop-cell.best shows is c.before-cells.ensures.lists c.cells.ensures c.loop-cell.invariant.own
          (subst (λ (m : ℕ). IsBestCell p t c.args.column cells m c.loop-cell.best) all (c.loop-cell.invariant.best p t shows));
    }
