use Rattle.std.proofs.Common.{arith}
use Rattle.std.proofs.lemmas.Int.{ints}
use Rattle.poly_terms.proofs.wide.wide_sum.Goals as goal

pub returns-clause-value : goal.returns-clause-value
returns-clause-value c = omega (arith, ints, c.requires.left.high, c.requires.left.low, c.requires.right.high, c.requires.right.low)

pub returns-clause-within : goal.returns-clause-within
returns-clause-within c = λ n h. record {
  high = omega (arith, ints, h.high, h.low, c.requires.left.high, c.requires.right.high);
  low = omega (arith, ints, h.high, h.low, c.requires.left.low, c.requires.right.low);
}
