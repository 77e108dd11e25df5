use Rattle.std.proofs.Common.{◌≡◌, ℕ, refl, sym, arith, length, subst, ◌+◌}
use Rattle.std.proofs.lemmas.Option.{slice_get_read}
use Rattle.simplex_core.specs.declared.column_table.ColumnTable.{ColumnTable}
use Rattle.simplex_core.specs.ColumnTables.{ListsTouched}
use Rattle.simplex_core.proofs.ColumnTableLaws.{lists-more, lists-same}
use Rattle.simplex_core.proofs.column_table.ColumnTable.list_touched.Goals.{then-cell-row+in_ok-list_in_row, else-cell-row}
use Rattle.simplex_core.proofs.column_table.ColumnTable.list_touched.Goals as goal

pub loop-cell-init : goal.loop-cell-init
loop-cell-init c = record {
  changes = record { rows = refl; columns = refl; basis = refl; right = refl; kept = refl; beside = c.requires.beside };
  put = λ k j e l is apart named. absurd (omega arith);
}

pub loop-cell-preserved : goal.loop-cell-preserved
loop-cell-preserved c =
    let old = c.args.self.now in
    let table = c.loop-cell.self in
    let row = c.args.row in
    let cells = c.args.cells.now in
    let touched = c.args.touched.now in
    let m = c.loop-cell.cell-index in
    let cell = c.cell-item.result in
    let before = c.loop-cell.invariant in
    let at = slice_get_read cells (length cells) m cell refl c.loop-cell-test.true c.cell-item.is in
    elim c.if-cell-row.branch [
      | then-cell-row+in_ok-list_in_row w ↦
          subst (λ (t : ColumnTable). ListsTouched old t row cells touched (m + 1)) (sym w.self-is)
          (lists-more old table w.list_in_row.new.self row cells touched m cell before w.in_ok-list_in_row.ensures at)
      | else-cell-row w ↦
          let same = w.if-cell-row.false in
          subst (λ (t : ColumnTable). ListsTouched old t row cells touched (m + 1)) (sym w.self-is)
          (lists-same old table row cells touched m cell before at (omega (arith, same)))
    ]

pub returns : goal.returns
returns c =
    let below = c.loop-cell-test.false in
    let end = c.loop-cell.auto.cell-index-end in
    let all : c.loop-cell.cell-index ≡ length c.args.cells.now = omega (arith, below, end) in
    subst (λ (m : ℕ). ListsTouched c.args.self.now c.loop-cell.self c.args.row c.args.cells.now c.args.touched.now m) all c.loop-cell.invariant
