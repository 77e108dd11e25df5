use Rattle.std.proofs.Common.{◌≡◌, ◌<◌, subst, ℕ, length, refl, arith}
use Rattle.std.proofs.lemmas.Option.{slice_get_read}
use Rattle.simplex_core.specs.ColumnListing.{PutsCells}
use Rattle.simplex_core.proofs.ColumnListings.{cells-none, cells-more}
use Rattle.simplex_core.proofs.column_table.lists.put_cells.Goals as goal

pub loop-cell-init : goal.loop-cell-init
loop-cell-init c = cells-none c.args.lists.now.items c.args.cells.now c.args.position

pub loop-cell-preserved : goal.loop-cell-preserved
loop-cell-preserved c =
    let cells = c.args.cells.now in
    let cell = c.cell-item.result in
    let lists = c.loop-cell.lists.items in
    let list = c.index_mut.result.now in
    let at = slice_get_read cells (length cells) c.loop-cell.cell-index cell refl c.loop-cell-test.true c.cell-item.is in
    let row = c.requires.each c.loop-cell.cell-index cell at in
    let size = c.loop-cell.invariant.length_is in
    let below : cell.row < length lists = omega (arith, row, size) in
    let read = slice_get_read lists (length lists) cell.row list refl below c.index_mut.ensures.value in
    cells-more c.args.lists.now.items lists cells cell c.args.position c.loop-cell.cell-index list c.push.new.self c.loop-cell.invariant read c.in_ok-push.ensures at

pub returns-clause-puts : goal.returns-clause-puts
returns-clause-puts c =
    let below = c.loop-cell-test.false in
    let end = c.loop-cell.auto.cell-index-end in
    let all : c.loop-cell.cell-index ≡ length c.args.cells.now = omega (arith, below, end) in
    subst (λ (m : ℕ). PutsCells c.args.lists.now.items c.loop-cell.lists.items c.args.cells.now c.args.position m) all c.loop-cell.invariant

pub returns-clause-size : goal.returns-clause-size
returns-clause-size c = c.loop-cell.invariant.length_is
