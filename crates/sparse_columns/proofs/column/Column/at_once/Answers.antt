use Rattle.std.proofs.Common.{◌≡◌, ℕ, arith, ap, subst, to_z, of_z, Option}
use Rattle.std.specs.Prelude.{ℤ, pos, ◌+ℤ◌, ◌*ℤ◌, IfSome}
use Rattle.std.specs.Int.{w64}
use Rattle.std.proofs.lemmas.Int.{ints, to_z-of_z}
use Rattle.sparse_columns.specs.declared.cells.Cells.{Cells}
use Rattle.sparse_columns.specs.Numbers.{number, number_of}
use Rattle.sparse_columns.proofs.column.Column.at_once.Goals as goal

pub returns-in-Some : goal.returns-in-Some
returns-in-Some c = record {
  divisor = pos 1;
  positive = omega (arith, ints);
  numbers = λ i.
      let all = told i in
      let left = ap (λ (z : ℤ). number_of c.args.left.now i *ℤ z) (to_z-of_z w64 c.args.left_factor c.ranges.left_factor) in
      let right = ap (λ (z : ℤ). number_of c.args.right.now i *ℤ z) (to_z-of_z w64 c.args.right_factor c.ranges.right_factor) in
      omega (arith, ints, all, left, right);
  over = let plain = to_z-of_z w64 c.args.den c.ranges.den in omega (arith, ints, plain);
}
  where
    told : (i : ℕ) → number c.in-Some.cells i
        ≡ number_of c.args.left.now i *ℤ to_z w64 (of_z w64 c.args.left_factor) +ℤ number_of c.args.right.now i *ℤ to_z w64 (of_z w64 c.args.right_factor)
    told = subst (λ (o : Option Cells). IfSome o (λ x. (i : ℕ) → number x i
        ≡ number_of c.args.left.now i *ℤ to_z w64 (of_z w64 c.args.left_factor) +ℤ number_of c.args.right.now i *ℤ to_z w64 (of_z w64 c.args.right_factor)))
        c.in-Some.is c.in_ok-cells.ensures
