use Rattle.std.proofs.Common.{◌≡◌, to_z, of_z, arith, ap, sym, ◌∙◌, subst}
use Rattle.std.specs.Int.{w128}
use Rattle.std.specs.Prelude.{unsigned_abs, ℤ, pos, ◌<ℤ◌, ◌-ℤ◌, ◌*ℤ◌}
use Rattle.std.proofs.lemmas.Int.{ints, to_z-of_z}
use Rattle.int_laws.proofs.OrderLaws.{mul-positive_ℤ}
use Rattle.frac128.proofs.LowestTerms.{IsGcd-same, negated_product-positive}
use Rattle.frac128.proofs.divisor.signed_divisor.Goals as goal

pub overflow_sub-result : goal.overflow_sub-result
overflow_sub-result c = omega (arith, ints)

pub returns-then-under-lt0-clause-divides : goal.returns-then-under-lt0-clause-divides
returns-then-under-lt0-clause-divides c =
    let over = to_z-of_z w128 c.args.over c.ranges.over in
    let under = to_z-of_z w128 c.args.under c.ranges.under in
    let divisor : to_z w128 (of_z w128 (pos 0 -ℤ to_z w128 (of_z w128 c.common_divisor-divisor.result))) ≡ pos 0 -ℤ c.common_divisor-divisor.result = omega (arith, ints) in
    let size : unsigned_abs c.common_divisor-divisor.result ≡ unsigned_abs (pos 0 -ℤ c.common_divisor-divisor.result) = omega (arith, ints) in
    IsGcd-same _ _ _ _ _ _ (ap unsigned_abs over) (ap unsigned_abs under) (size ∙ sym (ap unsigned_abs divisor)) c.common_divisor-divisor.ensures.divides

pub returns-else-under-lt0-clause-divides : goal.returns-else-under-lt0-clause-divides
returns-else-under-lt0-clause-divides c =
    let over = to_z-of_z w128 c.args.over c.ranges.over in
    let under = to_z-of_z w128 c.args.under c.ranges.under in
    let divisor : to_z w128 (of_z w128 c.common_divisor-divisor.result) ≡ c.common_divisor-divisor.result = omega (arith, ints) in
    IsGcd-same _ _ _ _ _ _ (ap unsigned_abs over) (ap unsigned_abs under) (sym (ap unsigned_abs divisor)) c.common_divisor-divisor.ensures.divides

pub returns-then-under-lt0-clause-same_sign : goal.returns-then-under-lt0-clause-same_sign
returns-then-under-lt0-clause-same_sign c =
    let divisor : to_z w128 (of_z w128 (pos 0 -ℤ to_z w128 (of_z w128 c.common_divisor-divisor.result))) ≡ pos 0 -ℤ c.common_divisor-divisor.result = omega (arith, ints) in
    subst (λ (z : ℤ). pos 0 <ℤ (c.args.under *ℤ z)) (sym divisor) (negated_product-positive _ _ (omega (arith, ints)) c.common_divisor-divisor.ensures.positive)

pub returns-else-under-lt0-clause-same_sign : goal.returns-else-under-lt0-clause-same_sign
returns-else-under-lt0-clause-same_sign c =
    let divisor : to_z w128 (of_z w128 c.common_divisor-divisor.result) ≡ c.common_divisor-divisor.result = omega (arith, ints) in
    subst (λ (z : ℤ). pos 0 <ℤ (c.args.under *ℤ z)) (sym divisor) (mul-positive_ℤ _ _ (omega (arith, ints)) c.common_divisor-divisor.ensures.positive)
