use Rattle.frac128.proofs.Uniqueness.{same_parts}
use Rattle.frac128.proofs.equal_fractions_are_identical.Goals as goal

pub returns : goal.returns
returns c = record { each = λ f g same. same_parts f.num f.den g.num g.den f.positive g.positive f.lowest g.lowest same }
