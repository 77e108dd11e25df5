-- Counts of nodes.
use Rattle.std.specs.Prelude.{◌≡◌, ℕ, ◌<◌, ◌≤◌, ◌^◌}

-- the count of n things: n itself, or 2^32 if n is 2^32 or more
pub record IsCount (n count : ℕ) : Type 0 where
  pub exact : n < 2 ^ 32 → count ≡ n
  pub most : 2 ^ 32 ≤ n → count ≡ 2 ^ 32
