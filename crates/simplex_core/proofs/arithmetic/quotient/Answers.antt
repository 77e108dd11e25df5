use Rattle.std.proofs.Common.{◌≡◌, ◌^◌, arith, to_z, of_z}
use Rattle.std.specs.Int.{w128}
use Rattle.std.specs.Prelude.{◌*ℤ◌}
use Rattle.std.proofs.lemmas.Int.{ints}
use Rattle.int_laws.proofs.OrderLaws.{mul-positive_ℤ}
use Rattle.simplex_core.proofs.FractionSizes.{product-below, fraction-below}
use Rattle.simplex_core.proofs.Differences.{same_product, same_fraction}
use Rattle.simplex_core.proofs.arithmetic.quotient.Goals as goal

pub lowest-requires-clause-nonzero : goal.lowest-requires-clause-nonzero
lowest-requires-clause-nonzero c e =
    let a = c.args.a in
    let b = c.args.b in
    let a_den : to_z w128 (of_z w128 a.den) ≡ a.den = omega (arith, ints) in
    let b_num : to_z w128 (of_z w128 b.num) ≡ b.num = omega (arith, ints) in
    let value = same_product a.den b.num _ _ _ a_den b_num c.small_product-under.ensures.value in
    let positive = mul-positive_ℤ a.den b.num a.positive c.requires.positive in
    omega (arith, ints, positive, value, e)

pub returns-clause-exact : goal.returns-clause-exact
returns-clause-exact c =
    let a = c.args.a in
    let b = c.args.b in
    let q = c.lowest.result in
    let over = c.small_product-over.result in
    let under = c.small_product-under.result in
    let a_num : to_z w128 (of_z w128 a.num) ≡ a.num = omega (arith, ints) in
    let a_den : to_z w128 (of_z w128 a.den) ≡ a.den = omega (arith, ints) in
    let b_num : to_z w128 (of_z w128 b.num) ≡ b.num = omega (arith, ints) in
    let b_den : to_z w128 (of_z w128 b.den) ≡ b.den = omega (arith, ints) in
    let over_as : to_z w128 (of_z w128 over) ≡ over = omega (arith, ints) in
    let under_as : to_z w128 (of_z w128 under) ≡ under = omega (arith, ints) in
    let over_is = same_product a.num b.den _ _ over a_num b_den c.small_product-over.ensures.value in
    let under_is = same_product a.den b.num _ _ under a_den b_num c.small_product-under.ensures.value in
    same_fraction q.num q.den (a.num *ℤ b.den) (a.den *ℤ b.num) over under over_is under_is
    (same_fraction q.num q.den over under _ _ over_as under_as c.lowest.ensures)

pub returns-clause-bounded : goal.returns-clause-bounded
returns-clause-bounded c =
    let a = c.args.a in
    let b = c.args.b in
    let q = c.lowest.result in
    let below = fraction-below q.num q.den (a.num *ℤ b.den) (a.den *ℤ b.num) (2 ^ 62) q.lowest (mul-positive_ℤ a.den b.num a.positive c.requires.positive) (returns-clause-exact c)
    (product-below a.num b.den (2 ^ 31) (2 ^ 31) c.requires.a_small.num c.requires.b_small.den)
    (product-below a.den b.num (2 ^ 31) (2 ^ 31) c.requires.a_small.den c.requires.b_small.num) in
    record { num = below.0; den = below.1 }
