-- The results of operations on fractions, and when they are out of range.
use Rattle.std.specs.Prelude.{◌≡◌, ℤ, pos, ◌+ℤ◌, ◌-ℤ◌, ◌*ℤ◌, ◌≤ℤ◌, ◌<ℤ◌, List, [], ◌∷◌, Result, MatchResult}
use Rattle.std.specs.Ordering.{int_cmp}
use Rattle.std.specs.declared.cmp.Ordering.{Ordering}
use Rattle.frac128.specs.declared.narrow.Range.{Range}
use Rattle.frac128.specs.declared.frac.Frac.{Frac}
use Rattle.frac128.specs.Narrow.{AreNarrow}

-- the fraction equals over / under, by cross products
abbrev pub IsFraction : Frac → ℤ → ℤ → Type 0
IsFraction f over under = f.num *ℤ under ≡ over *ℤ f.den

-- the result of a call that computes over / under by a formula with these numbers: the exact fraction if each number is
-- within the limit, and `Range` if one isn't
abbrev pub IsExactOrRange : Result Frac Range → List ℤ → ℤ → ℤ → Type 0
IsExactOrRange result numbers over under =
    MatchResult result (λ f. AreNarrow numbers × IsFraction f over under) (λ _. ¬ AreNarrow numbers)

-- the result of a comparison: the order of left and right if both are within the limit, and `Range` if one isn't
abbrev pub IsOrderOrRange : Result Ordering Range → ℤ → ℤ → Type 0
IsOrderOrRange result left right =
    MatchResult result (λ order. AreNarrow (left ∷ right ∷ []) × (order ≡ int_cmp left right))
    (λ _. ¬ AreNarrow (left ∷ right ∷ []))

-- the greatest integer that is at most the fraction
pub record IsFloor (f : Frac) (z : ℤ) : Type 0 where
  pub at_most : (z *ℤ f.den) ≤ℤ f.num
  pub maximum : f.num <ℤ ((z +ℤ pos 1) *ℤ f.den)

-- the least integer that is at least the fraction
pub record IsCeiling (f : Frac) (z : ℤ) : Type 0 where
  pub at_least : f.num ≤ℤ (z *ℤ f.den)
  pub least : ((z -ℤ pos 1) *ℤ f.den) <ℤ f.num

-- fractions of the same value have the same numerator and denominator
pub record EqualFractionsAreIdentical : Type 0 where
  pub each : (f g : Frac) → f.num *ℤ g.den ≡ g.num *ℤ f.den → (f.num ≡ g.num) × (f.den ≡ g.den)
