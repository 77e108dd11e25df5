use Rattle.std.proofs.Common.{sym, ◌∙◌}
use Rattle.frac128.specs.Zero.{zero, zero-num, zero-den}
use Rattle.frac128.proofs.Identity.{same_frac}
use Rattle.frac128.proofs.frac.FracDefault.default.Goals as goal

pub returns : goal.returns
returns c = same_frac c.whole.result zero (c.whole.ensures.0 ∙ sym zero-num) (c.whole.ensures.1 ∙ sym zero-den)
