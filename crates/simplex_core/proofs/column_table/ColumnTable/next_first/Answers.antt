use Rattle.std.proofs.Common.{arith}
use Rattle.std.specs.Prelude.{pos, ◌≤ℤ◌}
use Rattle.std.proofs.lemmas.Int.{ints}
use Rattle.sparse_columns.specs.Columns.{numerator}
use Rattle.simplex_core.proofs.ColumnTableLaws.{column-read, not_negative-more, not_negative-less}
use Rattle.simplex_core.proofs.column_table.ColumnTable.next_first.Goals as goal

pub loop-position-init : goal.loop-position-init
loop-position-init c h = h

pub loop-position-preserved : goal.loop-position-preserved
loop-position-preserved c h =
    let table = c.args.self.now in
    let column = c.index.result.now in
    let read = column-read table c.loop-position.position column c.loop-position-test.true c.index.ensures in
    let value = c.late.ensures.value in
    let bounded = c.late.ensures.bounded in
    let test = c.if-late-lt0.false in
    let above : pos 0 ≤ℤ numerator column table.rows = omega (arith, ints, value, bounded, test) in
    not_negative-more table.columns.items table.rows c.loop-position.position column (c.loop-position.invariant h) read above

pub returns-clause-first : goal.returns-clause-first
returns-clause-first c h =
    let table = c.args.self.now in
    let end = c.loop-position-test.false in
    not_negative-less table.columns.items table.rows c.loop-position.position table.width (c.loop-position.invariant h) (omega (arith, end))
