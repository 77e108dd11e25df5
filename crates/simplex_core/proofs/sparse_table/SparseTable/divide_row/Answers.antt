use Rattle.std.proofs.Common.{◌+◌, arith, refl, ◌∙◌, length}
use Rattle.std.proofs.lemmas.Option.{slice_get_read}
use Rattle.simplex_core.proofs.LineArithmetic.{zero-below, divided-bounded}
use Rattle.simplex_core.proofs.TableLines.{line-below, cell-side, divided-row}
use Rattle.simplex_core.proofs.sparse_table.SparseTable.divide_row.Goals as goal

pub divided-requires-clause-small : goal.divided-requires-clause-small
divided-requires-clause-small c =
    let row = c.requires.row in
    line-below c.args.self.now c.args.row 31 c.line.result.now (omega arith) c.line.ensures c.requires.small (zero-below 31 (omega arith))

pub quotient-side-requires-clause-a_small : goal.quotient-side-requires-clause-a_small
quotient-side-requires-clause-a_small c =
    let a = c.args.self.now in
    let items = a.right.items in
    let sides = a.sides in
    let row = c.requires.row in
    c.requires.small.each (a.columns + a.rows) c.index.result.now (record { row = omega arith; column = omega arith; cost = λ l. absurd (omega arith) })
    (cell-side a c.args.row (a.columns + a.rows) refl ∙ slice_get_read items (length items) c.args.row c.index.result.now refl (omega arith) c.index.ensures)

pub set_line-requires-clause-bounded : goal.set_line-requires-clause-bounded
set_line-requires-clause-bounded c =
    let a = c.args.self.now in
    divided-bounded c.line.result.now c.in_ok-line.line c.args.by (a.columns + a.rows) c.line.ensures.bounded c.requires.positive c.in_ok-line.ensures.divided

pub returns-clause-divided : goal.returns-clause-divided
returns-clause-divided c =
    let a = c.args.self.now in
    let items = a.right.items in
    let sides = a.sides in
    let row = c.requires.row in
    divided-row a c.set_line.new.self c.set_side.new.self c.args.row c.line.result.now c.in_ok-line.line c.index.result.now c.quotient-side.result c.args.by row
    c.line.ensures c.set_line.ensures c.set_side.ensures.changes c.set_side.ensures.written
    (slice_get_read items (length items) c.args.row c.index.result.now refl (omega arith) c.index.ensures) c.in_ok-line.ensures.divided
    c.quotient-side.ensures.exact
