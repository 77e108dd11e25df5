use Rattle.std.proofs.Common.{ap, ◌∙◌, arith}
use Rattle.std.specs.Int.{w64}
use Rattle.std.specs.Prelude.{ℤ, ◌*ℤ◌, int_div}
use Rattle.std.proofs.lemmas.Int.{quot_is, fits_signed_from_abs}
use Rattle.frac128.proofs.LowestTerms.{quotient-times}
use Rattle.sparse_columns.proofs.Quotients.{quotient-size}
use Rattle.sparse_columns.proofs.ratio.exact_quotient.Goals as goal

pub returns-clause-exact : goal.returns-clause-exact
returns-clause-exact c =
    let a = c.args.a in
    let divisor = c.args.divisor in
    let times = quotient-times a divisor c.requires.divides in
    let size = quotient-size a divisor (int_div a divisor) c.requires.positive times in
    let bounded = c.requires.bounded in
    let fits = fits_signed_from_abs w64 (int_div a divisor) (omega (arith, size, bounded)) in
    ap (λ (z : ℤ). z *ℤ divisor) (quot_is w64 a divisor c.ranges.a c.ranges.divisor fits) ∙ times
