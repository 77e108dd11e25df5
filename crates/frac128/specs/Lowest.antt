-- Lowest terms.
use Rattle.std.specs.Prelude.{◌≡◌, ℕ, ℤ, unsigned_abs}
use Rattle.std.specs.Int.{◌∣◌}

-- numerator and denominator have no common divisor but 1
abbrev pub IsLowest : ℤ → ℤ → Type 0
IsLowest num den = (k : ℕ) → k ∣ unsigned_abs num → k ∣ unsigned_abs den → k ≡ 1
