use Rattle.std.proofs.Common.{◌+◌, arith}
use Rattle.simplex_core.proofs.LineArithmetic.{zero-below, cleared-bounded}
use Rattle.simplex_core.proofs.TableLines.{line-below}
use Rattle.simplex_core.proofs.sparse_table.SparseTable.clear_row.Goals as goal

pub cleared-requires-clause-small : goal.cleared-requires-clause-small
cleared-requires-clause-small c =
    line-below c.args.self.now c.args.row 31 c.line.result.now c.requires.row c.line.ensures c.requires.small (zero-below 31 (omega arith))

pub cleared-requires-clause-bounded : goal.cleared-requires-clause-bounded
cleared-requires-clause-bounded c =
    let pivot = c.requires.pivot in
    line-below c.args.self.now c.args.pivot 62 c.line-2.result.now (omega arith) c.line-2.ensures c.requires.bounded (zero-below 62 (omega arith))

pub set_line-requires-clause-bounded : goal.set_line-requires-clause-bounded
set_line-requires-clause-bounded c =
    let a = c.args.self.now in
    cleared-bounded c.line.result.now c.line-2.result.now c.in_ok-line.line c.args.factor (a.columns + a.rows) c.line.ensures.bounded c.line-2.ensures.bounded
    c.in_ok-line.ensures
