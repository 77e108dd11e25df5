use Rattle.std.proofs.Common.{◌≡◌, ℕ, ◌+◌, arith, ap, sym, ◌∙◌, subst}
use Rattle.std.specs.Int.{w128}
use Rattle.std.specs.Prelude.{ℤ, ◌*ℤ◌}
use Rattle.std.proofs.lemmas.Int.{ints, to_z-of_z}
use Rattle.simplex_core.specs.Tableau.{sign_of}
use Rattle.simplex_core.specs.Building.{WritesWhole}
use Rattle.simplex_core.proofs.WrittenNumbers.{equations-step}
use Rattle.simplex_core.proofs.TableLines.{side-writes}
use Rattle.simplex_core.proofs.sparse_table.SparseTable.write_row.Goals as goal

pub returns-clause-whole : goal.returns-clause-whole
returns-clause-whole c g sides is holds =
    let table = c.args.self.now in
    let row = c.args.row in
    let middle = c.write.new.self in
    let last = c.set_side.new.self in
    let first = c.in_ok-write.ensures in
    let rows = first.changes.rows in
    let columns = first.changes.columns in
    let right = to_z-of_z w128 c.args.right c.ranges.right in
    let position : middle.columns + middle.rows ≡ table.columns + table.rows = omega arith in
    let value = c.signed.ensures.value ∙ ap (λ (z : ℤ). sign_of z *ℤ z) (right ∙ sym is) in
    let given = c.whole.ensures.0 in
    let number : c.whole.result.num ≡ c.signed.result = omega (arith, ints) in
    equations-step table.rows table.columns sides g row table middle last c.requires.row holds first
    (subst (λ (z : ℤ). WritesWhole middle last row (table.columns + table.rows) z) value
    (subst (λ (k : ℕ). WritesWhole middle last row k c.signed.result) position
    (side-writes middle last row (middle.columns + middle.rows) c.whole.result c.signed.result c.set_side.ensures.changes c.set_side.ensures.written number c.whole.ensures.1)))
