use Rattle.std.proofs.Common.{rules, ◌≡◌, ◌+◌, arith, ap, ◌∙◌, sym, drop, ◌∷◌, to_z, of_z}
use Rattle.std.specs.Prelude.{◌+ℤ◌}
use Rattle.std.specs.Int.{w64}
use Rattle.std.proofs.lemmas.Int.{ints}
use Rattle.std.proofs.lemmas.List.{drop_more, drop_all}
use Rattle.sparse_columns.specs.declared.cell.Cell.{Cell}
use Rattle.sparse_columns.specs.Numbers.{total_of}
use Rattle.sparse_columns.proofs.totals.sum_of.Goals as goal

pub loop-cell-preserved : goal.loop-cell-preserved
loop-cell-preserved c =
    let cells = c.args.cells.now in
    let k = c.loop-cell.cell-index in
    let cell = c.cell-item.result in
    let more = ap total_of (drop_more cells k cell c.loop-cell-test.true ∙ ap (λ (x : Cell). x ∷ drop (k + 1) cells) (sym c.cell-item.is)) in
    let value = c.value.ensures.value in
    let bounded = c.value.ensures.bounded in
    let next = c.in-Some.ensures in
    let plain : to_z w64 (of_z w64 c.in-Some.next) ≡ c.in-Some.next = search rules in
    let before : to_z w64 c.loop-cell.sum-bits +ℤ total_of (drop k cells) ≡ total_of cells = c.loop-cell.invariant in
    let after : to_z w64 (of_z w64 c.in-Some.next) +ℤ total_of (drop (k + 1) cells) ≡ total_of cells = omega (arith, ints, more, value, bounded, next, plain, before) in
    after

pub returns : goal.returns
returns c =
    let none = ap total_of (drop_all c.loop-cell.cell-index c.args.cells.now c.loop-cell-test.false) in
    let before = c.loop-cell.invariant in
    omega (arith, ints, none, before)
