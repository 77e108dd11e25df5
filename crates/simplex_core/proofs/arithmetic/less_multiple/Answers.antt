use Rattle.std.proofs.Common.{◌≡◌, arith, to_z, of_z}
use Rattle.std.specs.Int.{w128}
use Rattle.std.specs.Prelude.{◌*ℤ◌}
use Rattle.std.proofs.lemmas.Int.{ints}
use Rattle.int_laws.proofs.OrderLaws.{mul-positive_ℤ}
use Rattle.simplex_core.proofs.Differences.{less_by_formula, less_by_whole, same_triple, same_difference, same_fraction}
use Rattle.simplex_core.proofs.Differences.{same_less}
use Rattle.simplex_core.proofs.arithmetic.less_multiple.Goals as goal

pub lowest-requires-clause-nonzero : goal.lowest-requires-clause-nonzero
lowest-requires-clause-nonzero c e =
    let a = c.args.a in
    let factor = c.args.factor in
    let b = c.args.b in
    let a_den : to_z w128 (of_z w128 a.den) ≡ a.den = omega (arith, ints) in
    let factor_den : to_z w128 (of_z w128 factor.den) ≡ factor.den = omega (arith, ints) in
    let b_den : to_z w128 (of_z w128 b.den) ≡ b.den = omega (arith, ints) in
    let value = same_triple a.den factor.den b.den _ _ _ _ a_den factor_den b_den c.triple_product-under.ensures.value in
    let positive = mul-positive_ℤ (a.den *ℤ factor.den) b.den (mul-positive_ℤ a.den factor.den a.positive factor.positive) b.positive in
    omega (arith, ints, positive, value, e)

pub returns : goal.returns
returns c =
    let a = c.args.a in
    let factor = c.args.factor in
    let b = c.args.b in
    let left = c.triple_product-left.result in
    let right = c.triple_product-right.result in
    let under = c.triple_product-under.result in
    let over = c.large_difference.result in
    let a_num : to_z w128 (of_z w128 a.num) ≡ a.num = omega (arith, ints) in
    let a_den : to_z w128 (of_z w128 a.den) ≡ a.den = omega (arith, ints) in
    let factor_num : to_z w128 (of_z w128 factor.num) ≡ factor.num = omega (arith, ints) in
    let factor_den : to_z w128 (of_z w128 factor.den) ≡ factor.den = omega (arith, ints) in
    let b_num : to_z w128 (of_z w128 b.num) ≡ b.num = omega (arith, ints) in
    let b_den : to_z w128 (of_z w128 b.den) ≡ b.den = omega (arith, ints) in
    let left_as : to_z w128 (of_z w128 left) ≡ left = omega (arith, ints) in
    let right_as : to_z w128 (of_z w128 right) ≡ right = omega (arith, ints) in
    let under_as : to_z w128 (of_z w128 under) ≡ under = omega (arith, ints) in
    let over_as : to_z w128 (of_z w128 over) ≡ over = omega (arith, ints) in
    less_by_formula a.num a.den factor.num factor.den b.num b.den c.lowest.result.num c.lowest.result.den left right over under
    (same_triple a.num factor.den b.den _ _ _ left a_num factor_den b_den c.triple_product-left.ensures.value)
    (same_triple factor.num a.den b.num _ _ _ right factor_num a_den b_num c.triple_product-right.ensures.value)
    (same_difference left right _ _ over left_as right_as c.large_difference.ensures.value)
    (same_triple a.den factor.den b.den _ _ _ under a_den factor_den b_den c.triple_product-under.ensures.value)
    (same_fraction c.lowest.result.num c.lowest.result.den over under _ _ over_as under_as c.lowest.ensures)

pub returns-then-b-eq1 : goal.returns-then-b-eq1
returns-then-b-eq1 c =
    let a = c.args.a in
    let factor = c.args.factor in
    let b = c.args.b in
    let r = c.less_whole_multiple.result in
    let a_num : to_z w128 (of_z w128 a.num) ≡ a.num = omega (arith, ints) in
    let factor_num : to_z w128 (of_z w128 factor.num) ≡ factor.num = omega (arith, ints) in
    let b_num : to_z w128 (of_z w128 b.num) ≡ b.num = omega (arith, ints) in
    less_by_whole a.num a.den factor.num factor.den b.num b.den r.num r.den
    (omega (arith, ints)) (omega (arith, ints)) (omega (arith, ints)) c.less_whole_multiple.ensures.den
    (same_less a.num factor.num b.num _ _ _ r.num a_num factor_num b_num c.less_whole_multiple.ensures.num)
