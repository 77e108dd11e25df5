-- Ascending numbers, and the rounding of coefficients.
use Rattle.std.specs.Prelude.{ℕ, ◌+◌, ◌-◌, ◌/◌, ◌<◌, List, [], ◌∷◌, ⊤}

-- each number is less than the next
abbrev pub IsAscending : List ℕ → Type 0
IsAscending [] = ⊤
IsAscending (x ∷ []) = ⊤
IsAscending (x ∷ y ∷ rest) = (x < y) × IsAscending (y ∷ rest)

-- a number over a denominator, rounded up
abbrev pub rounded_up : ℕ → ℕ → ℕ
rounded_up n den = (n + (den - 1)) / den
