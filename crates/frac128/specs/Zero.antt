-- The fraction 0.
use Rattle.std.specs.Prelude.{◌≡◌, ◌<ℤ◌, pos, refl}
use Rattle.std.proofs.Common.{arith}
use Rattle.std.proofs.Math.Nat.{eq-one_of_dvd-one}
use Rattle.std.proofs.lemmas.Int.{ints}
use Rattle.frac128.specs.declared.frac.Frac.{Frac}
use Rattle.frac128.specs.Lowest.{IsLowest}
use Rattle.frac128.specs.Narrow.{IsNarrow}

-- 0 is within the limit
zero_is_narrow : IsNarrow (pos 0)
zero_is_narrow = omega arith

-- 1 is above 0
one_is_positive : pos 0 <ℤ pos 1
one_is_positive = omega (arith, ints)

-- 0 over 1 is in lowest terms
zero_is_lowest : IsLowest (pos 0) (pos 1)
zero_is_lowest k divides_zero divides_one = eq-one_of_dvd-one divides_one

-- the fraction 0
pub zero : Frac
zero = record { num = pos 0; den = pos 1; narrow = zero_is_narrow; positive = one_is_positive; lowest = zero_is_lowest }

-- the numerator of 0 is 0
pub zero-num : zero.num ≡ pos 0
unfolding zero
zero-num = refl

-- the denominator of 0 is 1
pub zero-den : zero.den ≡ pos 1
unfolding zero
zero-den = refl
