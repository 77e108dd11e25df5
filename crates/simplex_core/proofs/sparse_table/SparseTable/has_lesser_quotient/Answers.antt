use Rattle.std.proofs.Common.{◌≡◌, ℕ, ◌+◌, ap, sym, ◌∙◌, to_z, of_z, arith}
use Rattle.std.specs.Int.{w128}
use Rattle.std.specs.Prelude.{ℤ, int_lt, ◌*ℤ◌}
use Rattle.std.proofs.lemmas.Int.{ints}
use Rattle.simplex_core.specs.Cells.{cell}
use Rattle.simplex_core.specs.Positions.{InTable}
use Rattle.simplex_core.specs.Tableau.{unknowns}
use Rattle.simplex_core.proofs.Signs.{products-show}
use Rattle.simplex_core.proofs.sparse_table.SparseTable.has_lesser_quotient.Goals as goal

pub returns : goal.returns
returns c p t shows =
    let rows = shows.rows in
    let columns = shows.columns in
    let li = c.requires.i in
    let lr = c.requires.r in
    let lc = c.requires.column in
    let i = c.args.i in
    let r = c.args.r in
    let column = c.args.column in
    let u = unknowns p in
    let a = c.at-right_i.result in
    let b = c.at-entry_r.result in
    let x = c.at-right_r.result in
    let y = c.at-entry_i.result in
    let i_right : InTable p.rows p.columns i u = record { row = omega arith; column = omega arith; cost = λ l. absurd (omega arith) } in
    let i_entry : InTable p.rows p.columns i column = record { row = omega arith; column = omega arith; cost = λ l. omega arith } in
    let r_right : InTable p.rows p.columns r u = record { row = omega arith; column = omega arith; cost = λ l. absurd (omega arith) } in
    let r_entry : InTable p.rows p.columns r column = record { row = omega arith; column = omega arith; cost = λ l. omega arith } in
    let position : c.args.self.now.columns + c.args.self.now.rows ≡ u = omega arith in
    let left : to_z w128 (of_z w128 c.cross_product-left.result) ≡ (a.num *ℤ b.num) *ℤ (x.den *ℤ y.den) = omega (arith, ints) ∙ c.cross_product-left.ensures in
    let right : to_z w128 (of_z w128 c.cross_product-right.result) ≡ (x.num *ℤ y.num) *ℤ (a.den *ℤ b.den) = omega (arith, ints) ∙ c.cross_product-right.ensures in
    ap (λ (z : ℤ). int_lt z (to_z w128 (of_z w128 c.cross_product-right.result))) left
    ∙ (ap (λ (z : ℤ). int_lt ((a.num *ℤ b.num) *ℤ (x.den *ℤ y.den)) z) right
    ∙ products-show a.num b.num x.num y.num a.den b.den x.den y.den (t.scale i) (t.scale r) (t.entry i u) (t.entry r column) (t.entry r u) (t.entry i column)
    a.positive b.positive x.positive y.positive (shows.positive i i_right.row) (shows.positive r r_right.row)
    (shows.numbers i u a i_right (ap (λ (k : ℕ). cell c.args.self.now i k) (sym position) ∙ c.at-right_i.ensures))
    (shows.numbers r column b r_entry c.at-entry_r.ensures)
    (shows.numbers r u x r_right (ap (λ (k : ℕ). cell c.args.self.now r k) (sym position) ∙ c.at-right_r.ensures))
    (shows.numbers i column y i_entry c.at-entry_i.ensures))
