-- Least common multiples.
use Rattle.std.specs.Prelude.{◌≡◌, ℕ, ◌*◌, ◌<◌}
use Rattle.std.specs.Int.{IsGcd, ◌∣◌}

-- m is the least common multiple of a and b: both divide it, and it divides each number that both divide
pub record IsLeastCommonMultiple (a b m : ℕ) : Type 0 where
  pub first : a ∣ m
  pub second : b ∣ m
  pub least : (n : ℕ) → a ∣ n → b ∣ n → m ∣ n

-- no common multiple above 0 is within the limit
pub record HasNoneWithin (a b limit : ℕ) : Type 0 where
  pub each : (n : ℕ) → 0 < n → a ∣ n → b ∣ n → limit < n

-- two numbers have one least common multiple; its product with their greatest common divisor is the product of the two
pub record LeastCommonMultiplesHold : Type 0 where
  pub product : (a b g m : ℕ) → 0 < a → 0 < b → IsGcd a b g → g * m ≡ a * b → IsLeastCommonMultiple a b m
  pub one : (a b m n : ℕ) → IsLeastCommonMultiple a b m → IsLeastCommonMultiple a b n → m ≡ n
