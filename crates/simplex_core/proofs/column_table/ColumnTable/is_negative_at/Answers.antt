use Rattle.std.proofs.Common.{◌≡◌, ap, ◌∙◌, to_z, of_z, arith}
use Rattle.std.specs.Int.{w64}
use Rattle.std.specs.Prelude.{ℤ, pos, int_lt}
use Rattle.std.proofs.lemmas.Int.{ints}
use Rattle.simplex_core.proofs.Signs.{negative-shows}
use Rattle.simplex_core.proofs.ColumnTableLaws.{column-read}
use Rattle.simplex_core.proofs.column_table.ColumnTable.is_negative_at.Goals as goal

pub returns : goal.returns
returns c p t shows =
    let column = c.index.result.now in
    let rows = shows.rows in
    let row = c.requires.row in
    let wide = c.requires.column in
    let is = column-read c.args.self.now c.args.column column wide c.index.ensures in
    let bounded = c.late.ensures.bounded in
    let plain : to_z w64 (of_z w64 c.late.result) ≡ c.late.result = omega (arith, ints, bounded) in
    ap (λ (z : ℤ). int_lt z (pos 0)) (plain ∙ c.late.ensures.value)
    ∙ negative-shows _ column.den (t.entry c.args.row c.args.column) (t.scale c.args.row) column.positive (shows.positive c.args.row (omega arith))
    (shows.numbers c.args.row c.args.column column (omega arith) is)
