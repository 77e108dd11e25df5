use Rattle.std.proofs.Common.{◌≡◌, ap, ◌∙◌, to_z, of_z, arith}
use Rattle.std.specs.Int.{w128}
use Rattle.std.specs.Prelude.{ℤ, pos, int_lt}
use Rattle.std.proofs.lemmas.Int.{ints}
use Rattle.simplex_core.specs.Positions.{InTable}
use Rattle.simplex_core.proofs.Signs.{negative-shows}
use Rattle.simplex_core.proofs.sparse_table.SparseTable.is_negative_at.Goals as goal

pub returns : goal.returns
returns c p t shows =
    let f = c.at.result in
    let rows = shows.rows in
    let columns = shows.columns in
    let row = c.requires.row in
    let column = c.requires.column in
    let inside : InTable p.rows p.columns c.args.row c.args.column = record { row = omega arith; column = omega arith; cost = λ l. omega arith } in
    let num : to_z w128 (of_z w128 f.num) ≡ f.num = omega (arith, ints) in
    ap (λ (z : ℤ). int_lt z (pos 0)) num
    ∙ negative-shows f.num f.den (t.entry c.args.row c.args.column) (t.scale c.args.row) f.positive (shows.positive c.args.row inside.row)
    (shows.numbers c.args.row c.args.column f inside c.at.ensures)
