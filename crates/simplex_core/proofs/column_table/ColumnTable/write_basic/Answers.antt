use Rattle.std.proofs.Common.{◌≡◌, arith, refl, length, to_z, of_z, subst, ◌∙◌}
use Rattle.std.specs.Int.{w64}
use Rattle.std.specs.Prelude.{ℤ}
use Rattle.std.proofs.lemmas.Int.{ints}
use Rattle.std.proofs.lemmas.Option.{slice_get_read, get_or_from_slice_get}
use Rattle.frac128.specs.Fraction.{IsFraction}
use Rattle.sparse_columns.specs.Columns.{numerator}
use Rattle.simplex_core.proofs.ColumnExtraction.{basic-written, basic-skipped}
use Rattle.simplex_core.proofs.column_table.ColumnTable.write_basic.Goals as goal

pub returns-then-column-self : goal.returns-then-column-self
returns-then-column-self c =
    let items = c.args.self.now.basis.items in
    let based = c.args.self.now.based in
    let row = c.requires.row in
    let size = c.requires.at.length_is in
    let right = c.args.self.now.right in
    let at = get_or_from_slice_get items c.args.row c.index-column.result.now 0 (slice_get_read items (length items) c.args.row c.index-column.result.now refl (omega arith) c.index-column.ensures) in
    let number : to_z w64 (of_z w64 c.at.result) ≡ numerator right c.args.row = let bounded = c.at.ensures.bounded in let plain : to_z w64 (of_z w64 c.at.result) ≡ c.at.result = omega (arith, ints, bounded) in plain ∙ c.at.ensures.value in
    let den : to_z w64 (of_z w64 c.den.result) ≡ right.den = let bounded = c.den.ensures.small in let plain : to_z w64 (of_z w64 c.den.result) ≡ c.den.result = omega (arith, ints, bounded) in plain ∙ c.den.ensures.value in
    basic-written c.args.self.now c.args.row c.index-column.result.now c.args.at.now.items c.fraction.result c.requires.at at (omega arith)
    (subst (λ (d : ℤ). IsFraction c.fraction.result (numerator right c.args.row) d) den
    (subst (λ (n : ℤ). IsFraction c.fraction.result n (to_z w64 (of_z w64 c.den.result))) number c.fraction.ensures))

pub returns-else-column-self : goal.returns-else-column-self
returns-else-column-self c =
    let items = c.args.self.now.basis.items in
    let based = c.args.self.now.based in
    let row = c.requires.row in
    let at = get_or_from_slice_get items c.args.row c.index-column.result.now 0 (slice_get_read items (length items) c.args.row c.index-column.result.now refl (omega arith) c.index-column.ensures) in
    basic-skipped c.args.self.now c.args.row c.index-column.result.now c.args.at.now.items c.requires.at at (omega arith)
