-- The entries of a row, and one entry plus a multiple of another.
use Rattle.std.specs.Prelude.{◌≡◌, ◌≢◌, ℕ, ℤ, pos, ◌+ℤ◌, ◌*ℤ◌, List, [], ◌∷◌, Option, Some, None, ◌⊎◌}
use Rattle.frac128.specs.declared.frac.Frac.{Frac}
use Rattle.frac128.specs.Fraction.{IsFraction}
use Rattle.frac128.specs.Narrow.{AreNarrow}
use Rattle.frac128.specs.Zero.{zero}

-- the fraction of an optional entry, or 0 if there is none
abbrev pub fraction_of : Option (ℕ × Frac) → Frac
fraction_of None = zero
fraction_of (Some x) = x.1

-- an optional entry isn't 0
abbrev pub IsListed : Option (ℕ × Frac) → Type 0
IsListed None = Unit {0}
IsListed (Some x) = x.1.num ≢ pos 0

-- the entry of a fraction at a column, or none if the fraction is 0
abbrev pub IsEntryOf : ℕ → Frac → Option (ℕ × Frac) → Type 0
IsEntryOf place f None = f.num ≡ pos 0
IsEntryOf place f (Some x) = (x.0 ≡ place) × (x.1 ≡ f) × (f.num ≢ pos 0)

-- `made` is exactly `here` plus `by` times `there`
abbrev pub IsPlusMultiple : Frac → Frac → Frac → Frac → Type 0
IsPlusMultiple here by there made =
    IsFraction made (here.num *ℤ (by.den *ℤ there.den) +ℤ (by.num *ℤ there.num) *ℤ here.den)
    (here.den *ℤ (by.den *ℤ there.den))

-- the numbers in the formula of a product
abbrev pub product_numbers : Frac → Frac → List ℤ
product_numbers by there = (by.num *ℤ there.num) ∷ (by.den *ℤ there.den) ∷ []

-- the numbers in the formula of a sum
abbrev pub sum_numbers : Frac → Frac → List ℤ
sum_numbers here other =
    let left = here.num *ℤ other.den in
    let right = other.num *ℤ here.den in
    left ∷ right ∷ (left +ℤ right) ∷ (here.den *ℤ other.den) ∷ []

-- the fraction is `by` times `there`
abbrev pub IsProduct : Frac → Frac → Frac → Type 0
IsProduct by there p = IsFraction p (by.num *ℤ there.num) (by.den *ℤ there.den)

-- neither the product of `by` and `there` nor its sum with `here` gives `Range`
pub record IsWithin (here by there : Frac) : Type 0 where
  pub within : AreNarrow (product_numbers by there)
  pub product : Frac
  pub is : IsProduct by there product
  pub sum_within : AreNarrow (sum_numbers here product)

-- the product of `by` and `there`, or its sum with `here`, gives `Range`
abbrev pub IsBeyond : Frac → Frac → Frac → Type 0
IsBeyond here by there =
    (¬ AreNarrow (product_numbers by there)) ⊎ ((p : Frac) × IsProduct by there p × ¬ AreNarrow (sum_numbers here p))

-- the combination of two optional entries: the left one plus `by` times the right one
pub record IsJoined (by : Frac) (left right made : Option (ℕ × Frac)) : Type 0 where
  pub value : IsPlusMultiple (fraction_of left) by (fraction_of right) (fraction_of made)
  pub within : IsWithin (fraction_of left) by (fraction_of right)
  pub listed : IsListed made
