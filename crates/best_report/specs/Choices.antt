-- Which of two bounds is printed: that of an analysis, or that of a claim in a proof file (the stated one).
use Rattle.std.specs.Prelude.{◌≡◌, ◌⊎◌, ⊤, List, Option, Some, None, IfSome, IsSomeAnd, IsTrue, ℤ}
use Rattle.signed_bounds.specs.Bounds.{Signed, MinimumOf, NoParts, Part}
use Rattle.signed_bounds.specs.Measure.{exceeds_limits}
use Rattle.signed_values.specs.Comparing.{IsAtMostAt}

-- the minimum of the bound of an analysis and of a stated one
abbrev pub least_of : Signed → Signed → Signed
least_of found stated = MinimumOf stated (Part found NoParts)

-- the third bound is one of the first two, or their minimum
abbrev pub IsOneOrMinimum : Signed → Signed → Signed → Type 0
IsOneOrMinimum found stated b = (b ≡ found) ⊎ ((b ≡ stated) ⊎ (b ≡ least_of found stated))

-- If one of the analysis and the claim has a bound, the third one is that; if both have one, it is one of these or their
-- minimum; else there is none.
abbrev pub IsChosen : Option Signed → Option Signed → Option Signed → Type 0
IsChosen None stated b = b ≡ stated
IsChosen (Some found) None b = b ≡ Some found
IsChosen (Some found) (Some stated) b = (c : Signed) × (b ≡ Some c) × IsOneOrMinimum found stated c

-- if there are both bounds, the second one is at most the first, that of the analysis, at each of the lists of start values
abbrev pub IsNoWorse : List (List ℤ) → Option Signed → Option Signed → Type 0
IsNoWorse starts found b = IfSome found (λ a. IfSome b (λ c. IsAtMostAt starts c a))

-- the third bound is the minimum of the first two, or the first one, where the minimum would exceed the limits of bounds
abbrev pub IsLeastWithinLimits : Signed → Signed → Signed → Type 0
IsLeastWithinLimits found stated b =
    (b ≡ least_of found stated) ⊎ (IsTrue (exceeds_limits (least_of found stated)) × (b ≡ found))

-- the third bound is at most the stated one at each of the lists of start values; or the minimum of the first two would
-- exceed the limits, and the third is one of them
abbrev pub IsAtMostStatedOrOverLimit : List (List ℤ) → Signed → Signed → Signed → Type 0
IsAtMostStatedOrOverLimit starts found stated b =
    IsAtMostAt starts b stated
    ⊎ (IsTrue (exceeds_limits (least_of found stated)) × ((b ≡ found) ⊎ (b ≡ stated)))

-- Where there is a stated bound, there is a third one. It is at most the stated one at each of the lists of start values,
-- or else the analysis has a bound, too, and their minimum would exceed the limits.
abbrev pub IsAtMostStated : List (List ℤ) → Option Signed → Option Signed → Option Signed → Type 0
IsAtMostStated starts found None b = ⊤
IsAtMostStated starts None (Some stated) b = IsSomeAnd b (λ c. IsAtMostAt starts c stated)
IsAtMostStated starts (Some found) (Some stated) b = IsSomeAnd b (λ c. IsAtMostStatedOrOverLimit starts found stated c)
