use Rattle.std.proofs.Common.{◌≡◌, ◌<◌, ap, ◌∙◌, to_z, of_z, arith}
use Rattle.std.specs.Int.{w64}
use Rattle.std.specs.Prelude.{ℤ, int_lt, ◌*ℤ◌}
use Rattle.std.proofs.lemmas.Int.{ints}
use Rattle.sparse_columns.specs.Columns.{numerator}
use Rattle.simplex_core.specs.Tableau.{unknowns}
use Rattle.simplex_core.proofs.ColumnTableLaws.{quotients-show, column-there, shown-cell}
use Rattle.simplex_core.proofs.column_table.ColumnTable.has_lesser_quotient.Goals as goal

pub returns : goal.returns
returns c p t shows =
    let a = c.args.a in
    let b = c.args.b in
    let column = c.args.column in
    let table = c.args.self.now in
    let right = table.right in
    let there = column-there table column c.requires.column in
    let rows = shows.rows in
    let la = c.requires.a.row in
    let lb = c.requires.b.row in
    let la' : a.row < p.rows = omega arith in
    let lb' : b.row < p.rows = omega arith in
    let at_a : to_z w64 (of_z w64 c.at.result) ≡ numerator right a.row = let bounded = c.at.ensures.bounded in let plain : to_z w64 (of_z w64 c.at.result) ≡ c.at.result = omega (arith, ints, bounded) in plain ∙ c.at.ensures.value in
    let at_b : to_z w64 (of_z w64 c.at-2.result) ≡ numerator right b.row = let bounded = c.at-2.ensures.bounded in let plain : to_z w64 (of_z w64 c.at-2.result) ≡ c.at-2.result = omega (arith, ints, bounded) in plain ∙ c.at-2.ensures.value in
    let of_b : to_z w64 (of_z w64 c.value.result) ≡ b.number = let bounded = c.value.ensures.bounded in let plain : to_z w64 (of_z w64 c.value.result) ≡ c.value.result = omega (arith, ints, bounded) in plain ∙ c.value.ensures.value in
    let of_a : to_z w64 (of_z w64 c.value-2.result) ≡ a.number = let bounded = c.value-2.ensures.bounded in let plain : to_z w64 (of_z w64 c.value-2.result) ≡ c.value-2.result = omega (arith, ints, bounded) in plain ∙ c.value-2.ensures.value in
    let left_plain : to_z w64 (of_z w64 c.product-left.result) ≡ c.product-left.result = let bounded = c.product-left.ensures.bounded in omega (arith, ints, bounded) in
    let right_plain : to_z w64 (of_z w64 c.product-right.result) ≡ c.product-right.result = let bounded = c.product-right.ensures.bounded in omega (arith, ints, bounded) in
    let left = left_plain ∙ (c.product-left.ensures.value ∙ (ap (λ (z : ℤ). z *ℤ to_z w64 (of_z w64 c.value.result)) at_a ∙ ap (λ (z : ℤ). numerator right a.row *ℤ z) of_b)) in
    let rights = right_plain ∙ (c.product-right.ensures.value ∙ (ap (λ (z : ℤ). z *ℤ to_z w64 (of_z w64 c.value-2.result)) at_b ∙ ap (λ (z : ℤ). numerator right b.row *ℤ z) of_a)) in
    ap (λ (z : ℤ). int_lt z (to_z w64 (of_z w64 c.product-right.result))) left
    ∙ (ap (λ (z : ℤ). int_lt (numerator right a.row *ℤ b.number) z) rights
    ∙ quotients-show (numerator right a.row) b.number (numerator right b.row) a.number right.den there.0.den (t.scale a.row) (t.scale b.row)
    (t.entry a.row (unknowns p)) (t.entry b.row column) (t.entry b.row (unknowns p)) (t.entry a.row column)
    right.positive there.0.positive (shows.positive a.row (omega arith)) (shows.positive b.row (omega arith))
    (shows.right a.row la') (shown-cell p table t column b there.0 shows c.requires.b there.1) (shows.right b.row lb') (shown-cell p table t column a there.0 shows c.requires.a there.1))
