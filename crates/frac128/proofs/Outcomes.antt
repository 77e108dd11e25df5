-- The results of the calls: `Range` if a number is over the limit, and the exact fraction for the shortcuts.
use Rattle.std.proofs.Common.{◌≡◌, ◌≢◌, sym, ◌∙◌, arith, List, Ok, Err, Result}
use Rattle.std.specs.Prelude.{ℤ, pos, ◌<ℤ◌, ◌*ℤ◌, IsErr}
use Rattle.std.proofs.lemmas.Int.{ints, to_z-of_z}
use Rattle.int_laws.proofs.OrderLaws.{mul-positive_ℤ, mul-cancel_ℤ}
use Rattle.frac128.specs.declared.narrow.Range.{Range}
use Rattle.frac128.specs.declared.frac.Frac.{Frac}
use Rattle.frac128.specs.Narrow.{AreNarrow}
use Rattle.frac128.specs.Fraction.{IsExactOrRange}

-- the result `Range` is right if a number is over the limit
pub range_exit : (result : Result Frac Range) (numbers : List ℤ) (over under : ℤ) → IsErr result → ¬ AreNarrow numbers → IsExactOrRange result numbers over under
range_exit (Ok f) numbers over under is_err wide = cc
range_exit (Err e) numbers over under is_err wide = wide

-- the product of two denominators isn't 0
pub denominators_apart : (b d : ℤ) → pos 0 <ℤ b → pos 0 <ℤ d → b *ℤ d ≢ pos 0
denominators_apart b d h k e = let p = mul-positive_ℤ b d h k in omega (arith, ints)

-- the product of a denominator and a numerator other than 0 isn't 0
pub divisor_apart : (b c : ℤ) → pos 0 <ℤ b → c ≢ pos 0 → b *ℤ c ≢ pos 0
divisor_apart b c h k e = k (mul-cancel_ℤ b c (pos 0) h (e ∙ sym (base b)))
  where
    base : (b : ℤ) → b *ℤ pos 0 ≡ pos 0
    base b = omega (arith, ints)

pub ruleset exits = (range_exit, to_z-of_z, denominators_apart, divisor_apart)
