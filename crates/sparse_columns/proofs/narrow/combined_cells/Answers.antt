use Rattle.std.proofs.Common.{arith, ap}
use Rattle.std.specs.Prelude.{ℤ, ◌*ℤ◌}
use Rattle.std.specs.Int.{w64}
use Rattle.std.proofs.lemmas.Int.{ints, to_z-of_z}
use Rattle.sparse_columns.specs.Numbers.{number_of}
use Rattle.sparse_columns.proofs.narrow.combined_cells.Goals as goal

pub returns : goal.returns
returns c i =
    let sum = c.add_combined.ensures c.if-not-add_combined.false i in
    let none = c.in_ok-cells.ensures.numbers i in
    let plain_left = ap (λ (z : ℤ). number_of c.args.left.now i *ℤ z) (to_z-of_z w64 c.args.left_factor c.ranges.left_factor) in
    let plain_right = ap (λ (z : ℤ). number_of c.args.right.now i *ℤ z) (to_z-of_z w64 c.args.right_factor c.ranges.right_factor) in
    omega (arith, ints, sum, none, plain_left, plain_right)
