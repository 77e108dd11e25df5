use Rattle.std.proofs.Common.{rules, arith, ◌∙◌, subst, get_or}
use Rattle.std.specs.Int.{w128}
use Rattle.std.specs.Prelude.{ℤ, pos, ◌*ℤ◌, FitsSigned, slice_index_or}
use Rattle.std.proofs.lemmas.Int.{to_z-of_z}
use Rattle.std.proofs.lemmas.Option.{slice_get-get_or}
use Rattle.simplex_core.specs.declared.problem.Entry.{Entry}
use Rattle.simplex_core.specs.Tableau.{sign_of}
use Rattle.simplex_core.specs.Building.{WritesWhole}
use Rattle.simplex_core.proofs.WrittenNumbers.{entries-step, entries-zero}
use Rattle.simplex_core.proofs.sparse_table.SparseTable.write_entries.Goals as goal

pub write_entry-requires-clause-none : goal.write_entry-requires-clause-none
write_entry-requires-clause-none c =
    let inv = c.loop-position.invariant in
    let entries = c.args.entries.now in
    let position = c.loop-position.position in
    let none : Entry = record { row = 0; col = 0; value = pos 0 } in
    let e = get_or entries position none in
    let within = c.loop-position-test.true in
    let is = slice_get-get_or entries position none (omega arith) in
    let rows = inv.shape.rows in
    let columns = inv.shape.columns in
    let inside = c.requires.cells.inside position e is in
    entries-zero c.args.self.now.rows c.args.self.now.columns c.loop-position.self entries c.args.right.now position e c.requires.cells is inv.whole
    (omega (arith, inside.0)) (omega (arith, inside.1))

pub loop-position-preserved : goal.loop-position-preserved
loop-position-preserved c =
    let inv = c.loop-position.invariant in
    let entries = c.args.entries.now in
    let right = c.args.right.now in
    let position = c.loop-position.position in
    let none : Entry = record { row = 0; col = 0; value = pos 0 } in
    let e = get_or entries position none in
    let within = c.loop-position-test.true in
    let is = slice_get-get_or entries position none (omega arith) in
    let fits : FitsSigned w128 (slice_index_or right e.row (pos 0)) = search rules in
    let value = to_z-of_z w128 (slice_index_or right e.row (pos 0)) fits in
    let written = subst (λ (z : ℤ). WritesWhole c.loop-position.self c.write_entry.new.self e.row e.col (sign_of z *ℤ e.value)) value c.in_ok-write_entry.ensures in
    let changes = c.in_ok-write_entry.ensures.changes in
    record {
      shape = record { rows = changes.rows ∙ inv.shape.rows; columns = changes.columns ∙ inv.shape.columns; basis = changes.basis ∙ inv.shape.basis };
      whole = entries-step c.args.self.now.rows c.args.self.now.columns c.loop-position.self c.write_entry.new.self entries right position e c.requires.cells is inv.whole written;
    }
