use Rattle.std.proofs.Common.{◌≡◌, ◌+◌, arith, refl, ap, ◌∙◌, length}
use Rattle.std.proofs.lemmas.Option.{slice_get_read}
use Rattle.std.proofs.lemmas.Int.{ints}
use Rattle.frac128.proofs.Identity.{same_zero}
use Rattle.sparse_rows.specs.Rows.{fraction_at}
use Rattle.simplex_core.specs.Cells.{entry_of}
use Rattle.simplex_core.proofs.TableLines.{cell-line, put-bounded, put-writes, sets-line, when-ok}
use Rattle.simplex_core.proofs.sparse_table.SparseTable.write.Goals as goal

pub put-requires : goal.put-requires
put-requires c =
    let a = c.args.self.now in
    let line = c.index_mut-line.result.now in
    let shape = a.shape in
    let row = c.requires.row in
    let read = slice_get_read a.lines.items (length a.lines.items) c.args.row line refl (omega arith) c.index_mut-line.ensures.value in
    same_zero (fraction_at line c.args.column) (c.requires.none.each (fraction_at line c.args.column) (cell-line a c.args.row c.args.column c.requires.column ∙ ap (λ o. entry_of o c.args.column) read))

pub invariant_of-self-clause-bounded : goal.invariant_of-self-clause-bounded
invariant_of-self-clause-bounded c =
    let a = c.args.self.now in
    let line = c.index_mut-line.result.now in
    let shape = a.shape in
    let row = c.requires.row in
    let read = slice_get_read a.lines.items (length a.lines.items) c.args.row line refl (omega arith) c.index_mut-line.ensures.value in
    put-bounded a.lines.items c.args.row line c.put.new.self c.args.column (a.columns + a.rows) c.whole.result c.put.result a.bounded read (omega arith)
    c.requires.column c.put.ensures.put c.put.ensures.kept

pub returns : goal.returns
returns c =
    let a = c.args.self.now in
    let line = c.index_mut-line.result.now in
    let shape = a.shape in
    let row = c.requires.row in
    let read = slice_get_read a.lines.items (length a.lines.items) c.args.row line refl (omega arith) c.index_mut-line.ensures.value in
    let given = c.whole.ensures.0 in
    let num : c.whole.result.num ≡ c.args.number = omega (arith, ints) in
    when-ok _ _ c.put.result
    (λ put. put-writes a _ c.args.row c.args.column c.args.number line c.put.new.self c.whole.result (sets-line a _ c.args.row c.put.new.self refl refl refl refl refl c.requires.row)
    read c.requires.column num c.whole.ensures.1 put) c.put.ensures.put
