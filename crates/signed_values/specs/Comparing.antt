-- Bounds at lists of start values.
use Rattle.std.specs.Prelude.{◌≤◌, List, ℤ}
use Rattle.std.specs.List.{AllByRecursion}
use Rattle.signed_bounds.specs.Bounds.{Signed, signed_val}

-- at each of the lists of start values the first bound is at most the second
abbrev pub IsAtMostAt : List (List ℤ) → Signed → Signed → Type 0
IsAtMostAt starts b c = AllByRecursion (λ x. signed_val b x ≤ signed_val c x) starts
