use Rattle.std.proofs.Common.{rules, ◌≡◌, arith, ap, List, to_z, of_z}
use Rattle.std.specs.Prelude.{ℤ}
use Rattle.std.specs.Int.{w64}
use Rattle.std.proofs.lemmas.Int.{ints}
use Rattle.std.proofs.lemmas.Result.{IfOk-weaker}
use Rattle.std.proofs.lemmas.Option.{IfSome_then}
use Rattle.sparse_columns.specs.declared.cell.Cell.{Cell}
use Rattle.sparse_columns.specs.Numbers.{alone, number, number_of}
use Rattle.sparse_columns.specs.Columns.{numerator}
use Rattle.sparse_columns.proofs.column.Column.shifted.Goals as goal

pub returns : goal.returns
returns c =
    IfOk-weaker c.combined_cells.result _ _ (λ found told. IfSome_then found told (λ cells is i.
    let all = is i in
    let left : number_of c.as_slice.result.now i ≡ numerator c.args.self.now i = ap (λ (xs : List Cell). number_of xs i) c.as_slice.ensures.items in
    let right : number_of c.as_slice-2.result.now i ≡ number c.put.new.self i = ap (λ (xs : List Cell). number_of xs i) c.as_slice-2.ensures.items in
    let put = (c.in_ok-put.ensures c.if-not-branch.false).each i in
    let none = c.in_ok-own.ensures.numbers i in
    let plain : to_z w64 (of_z w64 c.args.self.now.den) ≡ c.args.self.now.den = search rules in
    let den = ap (λ (z : ℤ). alone c.args.row z i) plain in
    omega (arith, ints, all, left, right, put, none, den)))
    c.combined_cells.ensures
