use Rattle.std.proofs.Common.{◌≡◌, ◌<◌, ◌^◌, arith, ap, sym, ◌∙◌}
use Rattle.std.specs.Int.{w64}
use Rattle.std.specs.Prelude.{unsigned_abs}
use Rattle.std.proofs.lemmas.Int.{ints, to_z-of_z, to_z_pos}
use Rattle.frac128.proofs.LowestTerms.{IsGcd-same, IsGcd-bounds}
use Rattle.sparse_columns.proofs.ratio.common_divisor.Goals as goal

pub overflow_cast-result : goal.overflow_cast-result
overflow_cast-result c =
    let pivot = to_z-of_z w64 c.args.pivot c.ranges.pivot in
    let size : c.from-2.result ≡ unsigned_abs c.args.pivot = c.from-2.ensures ∙ (c.unsigned_abs-2.ensures.value ∙ ap unsigned_abs pivot) in
    let positive = c.requires.positive in
    let bounds = IsGcd-bounds _ _ _ c.greatest_common_divisor-divisor.ensures (omega (arith, ints, size)) in
    omega (arith, ints, bounds.1, size)

pub returns : goal.returns
returns c =
    let number = to_z-of_z w64 c.args.number c.ranges.number in
    let pivot = to_z-of_z w64 c.args.pivot c.ranges.pivot in
    let number_size : c.from.result ≡ unsigned_abs c.args.number = c.from.ensures ∙ (c.unsigned_abs.ensures.value ∙ ap unsigned_abs number) in
    let size : c.from-2.result ≡ unsigned_abs c.args.pivot = c.from-2.ensures ∙ (c.unsigned_abs-2.ensures.value ∙ ap unsigned_abs pivot) in
    let positive = c.requires.positive in
    let bounds = IsGcd-bounds _ _ _ c.greatest_common_divisor-divisor.ensures (omega (arith, ints, size)) in
    let small : c.greatest_common_divisor-divisor.result < 2 ^ 63 = omega (arith, ints, bounds.1, size) in
    let result = to_z_pos w64 c.greatest_common_divisor-divisor.result small in
    record {
      divides = IsGcd-same _ _ _ _ _ _ number_size size (sym (ap unsigned_abs result)) c.greatest_common_divisor-divisor.ensures;
      positive = omega (arith, ints, result, bounds.0);
    }
