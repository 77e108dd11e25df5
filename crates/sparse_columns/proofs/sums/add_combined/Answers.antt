use Rattle.std.proofs.Common.{◌≡◌, arith, ap, ◌∙◌, List, to_z, of_z, sym, refl}
use Rattle.std.specs.Prelude.{ℤ, ◌+ℤ◌, ◌*ℤ◌}
use Rattle.std.specs.Int.{w64}
use Rattle.std.proofs.lemmas.Int.{ints, to_z-of_z}
use Rattle.sparse_columns.specs.declared.cell.Cell.{Cell}
use Rattle.sparse_columns.specs.Numbers.{number_of}
use Rattle.sparse_columns.proofs.Merging.{multiple-put, sum-put}
use Rattle.sparse_columns.proofs.sums.add_combined.Goals as goal

pub merging-init : goal.merging-init
merging-init g c = record { held = λ i. refl; places = c.requires.places }

pub merging-preserved-then-a-b : goal.merging-preserved-then-a-b
merging-preserved-then-a-b g c = record {
  held = λ i.
      let f = to_z w64 (of_z w64 c.args.left_factor) in
      let y = number_of c.merging.right_rest.now i *ℤ to_z w64 (of_z w64 c.args.right_factor) in
      let w = g.S.Sums.held c.merging.sums i in
      let put = multiple-put w (g.S.Sums.held c.add_multiple.new.sums i) y c.in-Some.a.now c.in-Some.behind_a.now f i (c.add_multiple.ensures.added c.if-not-add_multiple.false i) in
      put ∙ (ap (λ (xs : List Cell). w +ℤ (number_of xs i *ℤ f +ℤ y)) (sym c.in-Some.ensures.cases.0) ∙ c.merging.invariant.held i);
  places =
      let before = c.merging.invariant.places in
      let size = c.in-Some.ensures.cases.1 in
      let added = c.add_multiple.ensures.places in
      omega (arith, before, size, added);
}

pub merging-preserved-then-b-a : goal.merging-preserved-then-b-a
merging-preserved-then-b-a g c = record {
  held = λ i.
      let f = to_z w64 (of_z w64 c.args.right_factor) in
      let y = number_of c.merging.left_rest.now i *ℤ to_z w64 (of_z w64 c.args.left_factor) in
      let w = g.S.Sums.held c.merging.sums i in
      let put = multiple-put w (g.S.Sums.held c.add_multiple-then-b-a.new.sums i) y c.in-Some-split_first.b.now c.in-Some-split_first.behind_b.now f i (c.add_multiple-then-b-a.ensures.added c.if-not-add_multiple-2.false i) in
      let same = ap (λ (xs : List Cell). number_of xs i *ℤ f) c.in-Some-split_first.ensures.cases.0 in
      let before = c.merging.invariant.held i in
      omega (arith, ints, put, same, before);
  places =
      let before = c.merging.invariant.places in
      let size = c.in-Some-split_first.ensures.cases.1 in
      let added = c.add_multiple-then-b-a.ensures.places in
      omega (arith, before, size, added);
}

pub merging-preserved : goal.merging-preserved
merging-preserved g c = record {
  held = λ i.
      let f = to_z w64 (of_z w64 c.args.left_factor) in
      let h = to_z w64 (of_z w64 c.args.right_factor) in
      let w = g.S.Sums.held c.merging.sums i in
      let a = c.in-Some.a.now in
      let b = c.in-Some-split_first.b.now in
      let row : a.row ≡ b.row = let l = c.if-a-b.false in let k = c.if-b-a.false in omega arith in
      let put = sum-put w (g.S.Sums.held c.add_sum.new.sums i) _ a b c.in-Some.behind_a.now c.in-Some-split_first.behind_b.now f h i row refl (c.add_sum.ensures.added c.if-not-add_sum.false i) in
      let left = ap (λ (xs : List Cell). number_of xs i *ℤ f) c.in-Some.ensures.cases.0 in
      let right = ap (λ (xs : List Cell). number_of xs i *ℤ h) c.in-Some-split_first.ensures.cases.0 in
      let before = c.merging.invariant.held i in
      omega (arith, ints, put, left, right, before);
  places =
      let before = c.merging.invariant.places in
      let size = c.in-Some.ensures.cases.1 in
      let sizes = c.in-Some-split_first.ensures.cases.1 in
      let added = c.add_sum.ensures.places in
      omega (arith, before, size, sizes, added);
}

pub returns : goal.returns
returns g c e i =
    let left = c.add_multiples.ensures.added c.if-not-add_multiples.false i in
    let right = c.add_multiples-2.ensures.added e i in
    let before = c.merging.invariant.held i in
    let plain_left = ap (λ (z : ℤ). number_of c.args.left.now i *ℤ z) (to_z-of_z w64 c.args.left_factor c.ranges.left_factor) in
    let plain_right = ap (λ (z : ℤ). number_of c.args.right.now i *ℤ z) (to_z-of_z w64 c.args.right_factor c.ranges.right_factor) in
    omega (arith, ints, left, right, before, plain_left, plain_right)
