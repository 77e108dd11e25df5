use Rattle.std.proofs.Common.{rules, ◌≡◌, ◌+◌, arith, ap, ◌∙◌, drop, List, to_z, of_z, get_or}
use Rattle.std.specs.Prelude.{ℤ, pos, ◌+ℤ◌, ◌*ℤ◌}
use Rattle.std.specs.Int.{w64}
use Rattle.std.proofs.lemmas.Int.{ints, to_z-of_z}
use Rattle.std.proofs.lemmas.List.{drop_more, drop_all}
use Rattle.sparse_columns.specs.declared.wide.Wide.{Wide}
use Rattle.sparse_columns.specs.Numbers.{alone, number}
use Rattle.sparse_columns.specs.Wide.{wide_number}
use Rattle.sparse_columns.proofs.Merging.{quotient-put}
use Rattle.sparse_columns.proofs.column.divided_cells.Goals as goal

pub loop-number-preserved : goal.loop-number-preserved
loop-number-preserved c i =
    let d = to_z w64 (of_z w64 c.args.divisor) in
    let wide = c.args.wide.now in
    let k = c.loop-number.number-index in
    let none : Wide = record { row = 0; number = pos 0 } in
    let item = get_or wide k none in
    let put = (c.in_ok-put.ensures c.if-not-branch.false).each i in
    let plain : to_z w64 (of_z w64 c.in-Some.quotient) ≡ c.in-Some.quotient = search rules in
    let value : to_z w64 (of_z w64 (get_or wide k none).number) ≡ (get_or wide k none).number = search rules in
    let step = quotient-put (number c.loop-number.cells i) (number c.put.new.self i) (wide_number (drop (k + 1) wide) i) item.row c.in-Some.quotient d item.number i
    (put ∙ ap (λ (z : ℤ). number c.loop-number.cells i +ℤ alone item.row z i) plain) (c.in-Some.ensures ∙ value) in
    let more = ap (λ (xs : List Wide). wide_number xs i) (drop_more wide k none c.loop-number-test.true) in
    let before = c.loop-number.invariant i in
    omega (arith, ints, step, more, before)

pub returns : goal.returns
returns c i =
    let d = to_z w64 (of_z w64 c.args.divisor) in
    let plain = ap (λ (z : ℤ). number c.loop-number.cells i *ℤ z) (to_z-of_z w64 c.args.divisor c.ranges.divisor) in
    let none = ap (λ (xs : List Wide). wide_number xs i) (drop_all c.loop-number.number-index c.args.wide.now c.loop-number-test.false) in
    let before = c.loop-number.invariant i in
    omega (arith, ints, plain, none, before)
