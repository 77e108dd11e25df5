use Rattle.std.proofs.Common.{◌≡◌, pos, to_z, of_z, arith, ◌*ℤ◌, ◌<ℤ◌, ap, sym, ◌∙◌, subst}
use Rattle.std.specs.Int.{w128, ◌∣◌}
use Rattle.std.specs.Prelude.{unsigned_abs, ℤ}
use Rattle.std.proofs.lemmas.Int.{ints, to_z-of_z}
use Rattle.std.proofs.Common.{refl}
use Rattle.frac128.specs.Narrow.{IsNarrow}
use Rattle.frac128.specs.Lowest.{IsLowest}
use Rattle.frac128.proofs.LowestTerms.{IsGcd-same, quotients_are_lowest, quotient-narrow, quotient-positive}
use Rattle.frac128.proofs.LowestTerms.{quotients-cross, factor_apart}
use Rattle.frac128.proofs.ShortWays.{cross}
use Rattle.frac128.proofs.frac.Frac.reduced.Goals as goal

pub exact_quotient-requires-clause-divides : goal.exact_quotient-requires-clause-divides
exact_quotient-requires-clause-divides c =
    let divisor : to_z w128 (of_z w128 c.signed_divisor-divisor.result) ≡ c.signed_divisor-divisor.result = omega (arith, ints) in
    subst (λ (z : ℤ). unsigned_abs z ∣ unsigned_abs (to_z w128 (of_z w128 c.args.over))) (sym divisor) c.signed_divisor-divisor.ensures.divides.0

pub exact_quotient-requires-2-clause-divides : goal.exact_quotient-requires-2-clause-divides
exact_quotient-requires-2-clause-divides c =
    let divisor : to_z w128 (of_z w128 c.signed_divisor-divisor.result) ≡ c.signed_divisor-divisor.result = omega (arith, ints) in
    subst (λ (z : ℤ). unsigned_abs z ∣ unsigned_abs (to_z w128 (of_z w128 c.args.under))) (sym divisor) c.signed_divisor-divisor.ensures.divides.1

pub invariant_of-result : goal.invariant_of-result
invariant_of-result c =
    let divisor_is = c.signed_divisor-divisor.result in
    let num_is = c.exact_quotient.result in
    let den_is = c.exact_quotient-2.result in
    let over = to_z-of_z w128 c.args.over c.ranges.over in
    let under = to_z-of_z w128 c.args.under c.ranges.under in
    let divisor : to_z w128 (of_z w128 c.signed_divisor-divisor.result) ≡ c.signed_divisor-divisor.result = omega (arith, ints) in
    let num : to_z w128 (of_z w128 c.exact_quotient.result) ≡ c.exact_quotient.result = omega (arith, ints) in
    let den : to_z w128 (of_z w128 c.exact_quotient-2.result) ≡ c.exact_quotient-2.result = omega (arith, ints) in
    let of_over = ap (λ (z : ℤ). c.exact_quotient.result *ℤ z) (sym divisor) ∙ (c.exact_quotient.ensures ∙ over) in
    let of_under = ap (λ (z : ℤ). c.exact_quotient-2.result *ℤ z) (sym divisor) ∙ (c.exact_quotient-2.ensures ∙ under) in
    let same_sign = subst (λ (z : ℤ). pos 0 <ℤ (z *ℤ c.signed_divisor-divisor.result)) under c.signed_divisor-divisor.ensures.same_sign in
    let gcd = IsGcd-same _ _ (unsigned_abs divisor_is) _ _ (unsigned_abs divisor_is) (ap unsigned_abs over) (ap unsigned_abs under) refl c.signed_divisor-divisor.ensures.divides in
    let apart = factor_apart c.args.under divisor_is same_sign in
    record {
      narrow = subst IsNarrow (sym num) (quotient-narrow c.args.over divisor_is num_is apart of_over c.requires.over_narrow);
      positive = subst (λ (z : ℤ). pos 0 <ℤ z) (sym den) (quotient-positive c.args.under divisor_is den_is of_under same_sign);
      lowest = subst (λ (z : ℤ). IsLowest z (to_z w128 (of_z w128 c.exact_quotient-2.result))) (sym num)
          (subst (λ (z : ℤ). IsLowest c.exact_quotient.result z) (sym den) (quotients_are_lowest c.args.over c.args.under divisor_is num_is den_is gcd apart of_over of_under));
    }

pub returns : goal.returns
returns c =
    let divisor_is = c.signed_divisor-divisor.result in
    let num_is = c.exact_quotient.result in
    let den_is = c.exact_quotient-2.result in
    let over = to_z-of_z w128 c.args.over c.ranges.over in
    let under = to_z-of_z w128 c.args.under c.ranges.under in
    let divisor : to_z w128 (of_z w128 c.signed_divisor-divisor.result) ≡ c.signed_divisor-divisor.result = omega (arith, ints) in
    let num : to_z w128 (of_z w128 c.exact_quotient.result) ≡ c.exact_quotient.result = omega (arith, ints) in
    let den : to_z w128 (of_z w128 c.exact_quotient-2.result) ≡ c.exact_quotient-2.result = omega (arith, ints) in
    let of_over = ap (λ (z : ℤ). c.exact_quotient.result *ℤ z) (sym divisor) ∙ (c.exact_quotient.ensures ∙ over) in
    let of_under = ap (λ (z : ℤ). c.exact_quotient-2.result *ℤ z) (sym divisor) ∙ (c.exact_quotient-2.ensures ∙ under) in
    ap (λ (z : ℤ). z *ℤ c.args.under) num ∙ (quotients-cross c.args.over c.args.under divisor_is num_is den_is of_over of_under ∙ ap (λ (z : ℤ). c.args.over *ℤ z) (sym den))

pub returns-then-under-eq1 : goal.returns-then-under-eq1
returns-then-under-eq1 c =
    let one : c.args.under ≡ pos 1 = omega (arith, ints) in
    let over = to_z-of_z w128 c.args.over c.ranges.over in
    cross c.whole.result.num c.whole.result.den c.args.over c.args.under (sym (c.whole.ensures.0 ∙ over)) (one ∙ sym c.whole.ensures.1)
