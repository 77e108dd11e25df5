-- Sizes of fractions.
use Rattle.std.specs.Prelude.{ℕ, ◌^◌, ◌<◌, unsigned_abs}
use Rattle.frac128.specs.declared.frac.Frac.{Frac}

-- the strict limit on the absolute values of the numbers of a problem, and of numerators and denominators of a tableau
abbrev pub number_limit : ℕ
number_limit = 2 ^ 31

-- numerator and denominator are below 2^bits in absolute value
pub record IsBelow (bits : ℕ) (f : Frac) : Type 0 where
  pub num : unsigned_abs f.num < 2 ^ bits
  pub den : unsigned_abs f.den < 2 ^ bits
