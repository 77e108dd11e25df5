use Rattle.std.proofs.Common.{arith, refl, length}
use Rattle.std.proofs.lemmas.Option.{slice_get_read, get_or_from_slice_get}
use Rattle.simplex_core.proofs.Extraction.{basic-written, basic-skipped}
use Rattle.simplex_core.proofs.sparse_table.SparseTable.write_basic.Goals as goal

pub returns-then-column-self : goal.returns-then-column-self
returns-then-column-self c =
    let items = c.args.self.now.basis.items in
    let based = c.args.self.now.based in
    let row = c.requires.row in
    let size = c.requires.at.length_is in
    let at = get_or_from_slice_get items c.args.row c.index.result.now 0 (slice_get_read items (length items) c.args.row c.index.result.now refl (omega arith) c.index.ensures) in
    basic-written c.args.self.now c.args.row c.index.result.now c.args.at.now.items c.at.result c.requires.at at (omega arith) c.at.ensures

pub returns-else-column-self : goal.returns-else-column-self
returns-else-column-self c =
    let items = c.args.self.now.basis.items in
    let based = c.args.self.now.based in
    let row = c.requires.row in
    let at = get_or_from_slice_get items c.args.row c.index.result.now 0 (slice_get_read items (length items) c.args.row c.index.result.now refl (omega arith) c.index.ensures) in
    basic-skipped c.args.self.now c.args.row c.index.result.now c.args.at.now.items c.requires.at at (omega arith)
