-- The limit on the numbers of a formula: an absolute value of at most 2^127 - 1.
use Rattle.std.specs.Prelude.{◌^◌, ◌<◌, ◌≤◌, ℤ, unsigned_abs, List, [], ◌∷◌}

-- the absolute value is at most 2^127 - 1
abbrev pub IsNarrow : ℤ → Type 0
IsNarrow z = unsigned_abs z < 2 ^ 127

-- the absolute value is over 2^127 - 1
abbrev pub IsWide : ℤ → Type 0
IsWide z = 2 ^ 127 ≤ unsigned_abs z

-- each of the numbers is within the limit
abbrev pub AreNarrow : List ℤ → Type 0
AreNarrow [] = Unit {0}
AreNarrow (z ∷ zs) = IsNarrow z × AreNarrow zs
