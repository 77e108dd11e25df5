-- Comparison of ratios, by integers.
use Rattle.std.specs.Prelude.{◌≡◌, ℤ, ◌*ℤ◌}

-- the ratio of over to under is that of number to pivot
abbrev pub IsRatio : ℤ → ℤ → ℤ → ℤ → Type 0
IsRatio number pivot over under = pivot *ℤ over ≡ number *ℤ under
