use Rattle.std.proofs.Common.{◌≡◌, pos, arith}
use Rattle.std.proofs.lemmas.Int.{ints}
use Rattle.frac128.proofs.LowestTerms.{zero_is_whole}
use Rattle.frac128.proofs.ShortWays.{zero-product}
use Rattle.frac128.proofs.frac.Frac.div.Goals as goal

pub returns-then-self-eq0 : goal.returns-then-self-eq0
returns-then-self-eq0 c =
    let self = c.args.self in
    let other = c.args.other in
    let zero : self.num ≡ pos 0 = omega (arith, ints) in
    zero-product self.num self.den other.den other.num zero (zero_is_whole self.num self.den self.lowest self.positive zero) other.narrow
