use Rattle.std.proofs.Common.{ap, ◌∙◌, arith}
use Rattle.std.specs.Int.{w64}
use Rattle.std.specs.Prelude.{FitsSigned}
use Rattle.std.proofs.lemmas.Int.{ints}
use Rattle.int_laws.specs.NormalForm.{is_zero}
use Rattle.simplex_core.proofs.Signs.{zero-shows}
use Rattle.simplex_core.proofs.ColumnTableLaws.{column-read, zero-test_small}
use Rattle.simplex_core.proofs.column_table.ColumnTable.is_zero_at.Goals as goal

pub returns : goal.returns
returns c p t shows =
    let column = c.index.result.now in
    let rows = shows.rows in
    let row = c.requires.row in
    let wide = c.requires.column in
    let is = column-read c.args.self.now c.args.column column wide c.index.ensures in
    let bounded = c.late.ensures.bounded in
    let fits : FitsSigned w64 c.late.result = omega (arith, ints, bounded) in
    zero-test_small c.late.result fits
    ∙ (ap is_zero c.late.ensures.value
    ∙ zero-shows _ column.den (t.entry c.args.row c.args.column) (t.scale c.args.row) column.positive (shows.positive c.args.row (omega arith))
    (shows.numbers c.args.row c.args.column column (omega arith) is))
