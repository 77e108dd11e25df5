use Rattle.std.proofs.Common.{arith, refl, length}
use Rattle.std.proofs.lemmas.Option.{slice_get_read}
use Rattle.simplex_core.proofs.LineArithmetic.{zero-below}
use Rattle.simplex_core.proofs.TableLines.{row-large, row-tested}
use Rattle.simplex_core.proofs.sparse_table.SparseTable.is_row_small.Goals as goal

pub returns-then-not-is_line_small : goal.returns-then-not-is_line_small
returns-then-not-is_line_small c =
    row-large c.args.self.now c.args.row c.line.result.now c.requires c.line.ensures (zero-below 31 (omega arith)) c.if-not-is_line_small.ensures

pub returns : goal.returns
returns c =
    let items = c.args.self.now.right.items in
    let sides = c.args.self.now.sides in
    let below = c.if-row-self.false in
    row-tested c.args.self.now c.args.row c.line.result.now c.index.result.now c.is_small.result (omega arith) c.line.ensures c.if-not-is_line_small.ensures
    (slice_get_read items (length items) c.args.row c.index.result.now refl (omega arith) c.index.ensures) c.is_small.ensures
