use Rattle.std.proofs.Common.{◌≡◌, ℕ, arith, ap, subst, ◌∙◌, to_z, of_z, List}
use Rattle.std.specs.Prelude.{ℤ, ◌+ℤ◌, ◌*ℤ◌, IfSome}
use Rattle.std.specs.Int.{w64}
use Rattle.std.proofs.lemmas.Int.{ints, to_z-of_z}
use Rattle.std.proofs.lemmas.Result.{IfOk-weaker}
use Rattle.std.proofs.lemmas.Option.{IfSome_then}
use Rattle.sparse_columns.specs.declared.wide.Wide.{Wide}
use Rattle.sparse_columns.specs.Numbers.{number_of}
use Rattle.sparse_columns.specs.Wide.{wide_number}
use Rattle.sparse_columns.proofs.column.Column.by_divisor.Goals as goal

pub returns : goal.returns
returns c =
    IfOk-weaker c.divided.result _ _
    (λ found told. IfSome_then found told (λ column multiple. record {
      divisor = multiple.divisor;
      positive = multiple.positive;
      numbers = λ i. multiple.numbers i ∙ numbers i;
      over = multiple.over ∙ to_z-of_z w64 c.args.den c.ranges.den;
    }))
    c.divided.ensures
  where
    told : (i : ℕ) → wide_number c.in-Some.wide.items i
        ≡ number_of c.args.left.now i *ℤ to_z w64 (of_z w64 c.args.left_factor) +ℤ number_of c.args.right.now i *ℤ to_z w64 (of_z w64 c.args.right_factor)
    told = subst (λ o. IfSome o (λ x. (i : ℕ) → wide_number x.items i
        ≡ number_of c.args.left.now i *ℤ to_z w64 (of_z w64 c.args.left_factor) +ℤ number_of c.args.right.now i *ℤ to_z w64 (of_z w64 c.args.right_factor)))
        c.in-Some.is c.in_ok-wide.ensures

    numbers : (i : ℕ) → wide_number c.as_slice-2.result.now i ≡ number_of c.args.left.now i *ℤ c.args.left_factor +ℤ number_of c.args.right.now i *ℤ c.args.right_factor
    numbers i =
        let same = ap (λ (ws : List Wide). wide_number ws i) c.as_slice-2.ensures.value in
        let all = told i in
        let left = ap (λ (z : ℤ). number_of c.args.left.now i *ℤ z) (to_z-of_z w64 c.args.left_factor c.ranges.left_factor) in
        let right = ap (λ (z : ℤ). number_of c.args.right.now i *ℤ z) (to_z-of_z w64 c.args.right_factor c.ranges.right_factor) in
        omega (arith, ints, same, all, left, right)
