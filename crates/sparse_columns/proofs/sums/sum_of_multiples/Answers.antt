use Rattle.std.proofs.Common.{rules, ◌≡◌, arith, ap, ◌∙◌, to_z, of_z}
use Rattle.std.specs.Prelude.{ℤ, ◌*ℤ◌}
use Rattle.std.specs.Int.{w64}
use Rattle.std.proofs.lemmas.Int.{ints, to_z-of_z}
use Rattle.sparse_columns.proofs.sums.sum_of_multiples.Goals as goal

pub returns : goal.returns
returns c =
    let a : to_z w64 (of_z w64 c.value.result) ≡ c.args.a.number = let plain : to_z w64 (of_z w64 c.value.result) ≡ c.value.result = search rules in plain ∙ c.value.ensures.value in
    let b : to_z w64 (of_z w64 c.value-2.result) ≡ c.args.b.number = let plain : to_z w64 (of_z w64 c.value-2.result) ≡ c.value-2.result = search rules in plain ∙ c.value-2.ensures.value in
    let left = c.product.ensures.value ∙ (ap (λ (z : ℤ). z *ℤ to_z w64 (of_z w64 c.args.a_factor)) a ∙ ap (λ (z : ℤ). c.args.a.number *ℤ z) (to_z-of_z w64 c.args.a_factor c.ranges.a_factor)) in
    let right = c.product-2.ensures.value ∙ (ap (λ (z : ℤ). z *ℤ to_z w64 (of_z w64 c.args.b_factor)) b ∙ ap (λ (z : ℤ). c.args.b.number *ℤ z) (to_z-of_z w64 c.args.b_factor c.ranges.b_factor)) in
    let left_bounded = c.product.ensures.bounded in
    let right_bounded = c.product-2.ensures.bounded in
    omega (arith, ints, left, right, left_bounded, right_bounded)
