use Rattle.std.proofs.Common.{ap, ◌∙◌}
use Rattle.std.specs.Int.{w128}
use Rattle.std.specs.Prelude.{ℤ, ◌*ℤ◌, int_div}
use Rattle.std.proofs.lemmas.Int.{quot_is, fits_signed_from_abs}
use Rattle.frac128.proofs.LowestTerms.{quotient-times, quotient-narrow}
use Rattle.frac128.proofs.divisor.exact_quotient.Goals as goal

pub returns : goal.returns
returns c =
    let times = quotient-times c.args.a c.args.divisor c.requires.divides in
    let narrow = quotient-narrow c.args.a c.args.divisor _ c.requires.nonzero times c.requires.narrow in
    let fits = fits_signed_from_abs w128 (int_div c.args.a c.args.divisor) narrow in
    ap (λ (z : ℤ). z *ℤ c.args.divisor) (quot_is w128 c.args.a c.args.divisor c.ranges.a c.ranges.divisor fits) ∙ times
