use Rattle.std.proofs.Common.{◌≡◌, ◌+◌, arith, ap, ◌∙◌, drop, List, [], ◌∷◌, to_z, of_z, sym}
use Rattle.std.specs.Prelude.{ℤ, pos, ◌*ℤ◌}
use Rattle.std.specs.Int.{w64}
use Rattle.std.proofs.lemmas.Int.{ints, to_z-of_z}
use Rattle.std.proofs.lemmas.List.{drop_more, drop_all}
use Rattle.sparse_columns.specs.declared.cell.Cell.{Cell}
use Rattle.sparse_columns.specs.Numbers.{number_of}
use Rattle.sparse_columns.proofs.Merging.{multiple-put}
use Rattle.sparse_columns.proofs.sums.add_multiples.Goals as goal

pub loop-cell-preserved : goal.loop-cell-preserved
loop-cell-preserved g c = record {
  held = λ i.
      let f = to_z w64 (of_z w64 c.args.factor) in
      let cells = c.args.cells.now in
      let k = c.loop-cell.cell-index in
      let cell = c.cell-item.result in
      let w = g.S.Sums.held c.loop-cell.sums i in
      let more : drop k cells ≡ cell ∷ drop (k + 1) cells = drop_more cells k cell c.loop-cell-test.true ∙ ap (λ (x : Cell). x ∷ drop (k + 1) cells) (sym c.cell-item.is) in
      let put = multiple-put w (g.S.Sums.held c.add_multiple.new.sums i) (pos 0) cell (drop (k + 1) cells) f i (c.add_multiple.ensures.added c.if-not-add_multiple.false i) in
      let same = ap (λ (xs : List Cell). number_of xs i *ℤ f) more in
      let before = c.loop-cell.invariant.held i in
      omega (arith, ints, put, same, before);
  places = let before = c.loop-cell.invariant.places in let added = c.add_multiple.ensures.places in omega (arith, before, added);
}

pub returns-clause-added : goal.returns-clause-added
returns-clause-added g c _ i =
    let plain = ap (λ (z : ℤ). number_of c.args.cells.now i *ℤ z) (to_z-of_z w64 c.args.factor c.ranges.factor) in
    let none = ap (λ (xs : List Cell). number_of xs i *ℤ to_z w64 (of_z w64 c.args.factor)) (drop_all c.loop-cell.cell-index c.args.cells.now c.loop-cell-test.false) in
    let zero : number_of [] i *ℤ to_z w64 (of_z w64 c.args.factor) ≡ pos 0 = omega (arith, ints) in
    let before = c.loop-cell.invariant.held i in
    omega (arith, ints, plain, none, zero, before)
