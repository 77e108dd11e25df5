use Rattle.std.proofs.Common.{◌≡◌, ◌<◌, ◌^◌, arith, ap, sym, ◌∙◌}
use Rattle.std.specs.Int.{w128}
use Rattle.std.specs.Prelude.{unsigned_abs}
use Rattle.std.proofs.lemmas.Int.{ints, to_z-of_z, to_z_pos}
use Rattle.frac128.proofs.LowestTerms.{IsGcd-same, IsGcd-bounds, size-positive}
use Rattle.frac128.proofs.divisor.common_divisor.Goals as goal

pub overflow_cast-result : goal.overflow_cast-result
overflow_cast-result c =
    let under = to_z-of_z w128 c.args.under c.ranges.under in
    let size : c.unsigned_abs-2.result ≡ unsigned_abs c.args.under = c.unsigned_abs-2.ensures.value ∙ ap unsigned_abs under in
    let bounds = IsGcd-bounds _ _ _ c.greatest_common_divisor.ensures (omega (arith, size, size-positive c.args.under c.requires.nonzero)) in
    omega (arith, ints, bounds.1)

pub returns : goal.returns
returns c =
    let over = to_z-of_z w128 c.args.over c.ranges.over in
    let under = to_z-of_z w128 c.args.under c.ranges.under in
    let over_size : c.unsigned_abs.result ≡ unsigned_abs c.args.over = c.unsigned_abs.ensures.value ∙ ap unsigned_abs over in
    let under_size : c.unsigned_abs-2.result ≡ unsigned_abs c.args.under = c.unsigned_abs-2.ensures.value ∙ ap unsigned_abs under in
    let bounds = IsGcd-bounds _ _ _ c.greatest_common_divisor.ensures (omega (arith, under_size, size-positive c.args.under c.requires.nonzero)) in
    let small : c.greatest_common_divisor.result < 2 ^ 127 = omega (arith, bounds.1) in
    let result = to_z_pos w128 c.greatest_common_divisor.result small in
    record {
      divides = IsGcd-same _ _ _ _ _ _ over_size under_size (sym (ap unsigned_abs result)) c.greatest_common_divisor.ensures;
      positive = omega (arith, ints, result, bounds.0);
    }
