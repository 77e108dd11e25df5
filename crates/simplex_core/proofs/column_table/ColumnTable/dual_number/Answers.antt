use Rattle.std.proofs.Common.{◌≡◌, ◌+◌, ◌<◌, ap, sym, subst, ◌∙◌, to_z, of_z, refl, length, arith}
use Rattle.std.specs.Int.{w64, w128}
use Rattle.std.specs.Prelude.{ℤ, pos, negsuc, ◌-ℤ◌, ◌*ℤ◌, int_lt, if◌then◌else◌}
use Rattle.std.proofs.lemmas.Int.{ints, to_z-of_z}
use Rattle.std.proofs.lemmas.Option.{slice_get_read, same_Some}
use Rattle.frac128.specs.Fraction.{IsFraction}
use Rattle.sparse_columns.specs.declared.column.Column.{Column}
use Rattle.sparse_columns.specs.Columns.{numerator}
use Rattle.simplex_core.specs.Tableau.{sign_of}
use Rattle.simplex_core.proofs.column_table.ColumnTable.dual_number.Goals as goal

pub returns : goal.returns
returns c x is =
    let table = c.args.self.now in
    let items = table.columns.items in
    let column = c.index-column.result.now in
    let within : table.width + c.args.row < length items = let u = table.unknowns in let r = c.requires in omega (arith, u, r) in
    let read = slice_get_read items (length items) (table.width + c.args.row) column refl within c.index-column.ensures in
    let same = same_Some column x (sym read ∙ is) in
    let number : to_z w64 (of_z w64 c.at.result) ≡ numerator column table.rows = let bounded = c.at.ensures.bounded in let plain : to_z w64 (of_z w64 c.at.result) ≡ c.at.result = omega (arith, ints, bounded) in plain ∙ c.at.ensures.value in
    let den : to_z w64 (of_z w64 c.den.result) ≡ column.den = let bounded = c.den.ensures.small in let plain : to_z w64 (of_z w64 c.den.result) ≡ c.den.result = omega (arith, ints, bounded) in plain ∙ c.den.ensures.value in
    let den_2 : to_z w64 (of_z w64 c.den-2.result) ≡ column.den = let bounded = c.den-2.ensures.small in let plain : to_z w64 (of_z w64 c.den-2.result) ≡ c.den-2.result = omega (arith, ints, bounded) in plain ∙ c.den-2.ensures.value in
    let less_plain : to_z w64 (of_z w64 c.rest-less.result) ≡ c.rest-less.result = let bounded = c.rest-less.ensures.bounded in omega (arith, ints, bounded) in
    let right = to_z-of_z w128 c.args.right c.ranges.right in
    let less : to_z w64 (of_z w64 c.rest-less.result) ≡ sign_of c.args.right *ℤ (column.den -ℤ numerator column table.rows) =
    less_plain ∙ (c.rest-less.ensures.value
    ∙ (ap (λ (z : ℤ). (if int_lt z (pos 0) then negsuc 0 else pos 1) *ℤ (to_z w64 (of_z w64 c.den.result) -ℤ to_z w64 (of_z w64 c.at.result))) right
    ∙ (ap (λ (z : ℤ). sign_of c.args.right *ℤ (z -ℤ to_z w64 (of_z w64 c.at.result))) den
    ∙ ap (λ (z : ℤ). sign_of c.args.right *ℤ (column.den -ℤ z)) number))) in
    subst (λ (y : Column). IsFraction c.fraction.result (sign_of c.args.right *ℤ (y.den -ℤ numerator y table.rows)) y.den) same
    (subst (λ (d : ℤ). IsFraction c.fraction.result (sign_of c.args.right *ℤ (column.den -ℤ numerator column table.rows)) d) den_2
    (subst (λ (z : ℤ). IsFraction c.fraction.result z (to_z w64 (of_z w64 c.den-2.result))) less c.fraction.ensures))
