-- Fractions over a common denominator.
use Rattle.std.specs.Prelude.{◌≡◌, ℕ, ◌*◌, ◌<◌, ◌≤◌, ℤ, pos, ◌*ℤ◌, unsigned_abs, List, length, slice_get, Some, ◌⊎◌}
use Rattle.std.specs.Int.{◌∣◌}
use Rattle.frac128.specs.declared.frac.Frac.{Frac}
use Rattle.linear_forms.specs.Forms.{at}
use Rattle.linear_forms.specs.Limits.{certificate_limit, point_limit}

-- n is a common denominator of the first m fractions: each of their denominators divides it
pub record IsCommon (fs : List Frac) (m n : ℕ) : Type 0 where
  pub each : (j : ℕ) (f : Frac) → j < m → slice_get fs j ≡ Some f → unsigned_abs f.den ∣ n

-- n is the least common denominator of the first m fractions: it is above 0, and divides each other one
pub record IsLeastCommon (fs : List Frac) (m n : ℕ) : Type 0 where
  pub positive : 0 < n
  pub common : IsCommon fs m n
  pub least : (k : ℕ) → IsCommon fs m k → n ∣ k

-- no common denominator above 0 of the first m fractions is within the limit
pub record HasNoCommonWithin (fs : List Frac) (m limit : ℕ) : Type 0 where
  pub each : (n : ℕ) → 0 < n → IsCommon fs m n → limit < n

-- the first m integers, over the denominator, are the first m fractions
pub record AreOver (fs : List Frac) (m : ℕ) (numbers : List ℤ) (den : ℕ) : Type 0 where
  pub positive : 0 < den
  pub each : (j : ℕ) (f : Frac) → j < m → slice_get fs j ≡ Some f → at numbers j *ℤ f.den ≡ f.num *ℤ pos den

-- none of the first m numbers is over the limit in absolute value
pub record AreWithin (limit m : ℕ) (numbers : List ℤ) : Type 0 where
  pub each : (j : ℕ) → j < m → unsigned_abs (at numbers j) ≤ limit

-- the integers over the denominator are the fractions, and the denominator is their least common one
pub record AreScaled (fs : List Frac) (numbers : List ℤ) (den : ℕ) : Type 0 where
  pub lengths : length numbers ≡ length fs
  pub over : AreOver fs (length fs) numbers den
  pub least : IsLeastCommon fs (length fs) den

-- a fraction times the denominator is over the limit in absolute value, stated by cross products
pub record IsNumberOver (f : Frac) (den limit : ℕ) : Type 0 where
  pub passes : limit * unsigned_abs f.den < unsigned_abs f.num * den

-- some fraction is a number over the limit when brought to the denominator
pub record HasNumberOver (fs : List Frac) (den limit : ℕ) : Type 0 where
  pub position : ℕ
  pub fraction : Frac
  pub within : position < length fs
  pub is : slice_get fs position ≡ Some fraction
  pub over : IsNumberOver fraction den limit

-- no common denominator within one limit gives the fractions numbers within the other: none is within its limit, or
-- over the least one some number is over the limit
pub record HasNoneScaled (fs : List Frac) (den_limit limit : ℕ) : Type 0 where
  pub each : HasNoCommonWithin fs (length fs) den_limit
      ⊎ ((den : ℕ) × IsLeastCommon fs (length fs) den × HasNumberOver fs den limit)

-- no common denominator within the limit of certificates gives the fractions numbers within it
abbrev pub ExceedsSolution : List Frac → Type 0
ExceedsSolution fs =
    (numbers : List ℤ) (den : ℕ) → AreOver fs (length fs) numbers den → AreWithin certificate_limit (length fs) numbers
    → ¬ (den ≤ certificate_limit)

-- no common denominator gives the fractions numbers within the limit of points
abbrev pub ExceedsDual : List Frac → Type 0
ExceedsDual fs = (numbers : List ℤ) (den : ℕ) → AreOver fs (length fs) numbers den
    → ¬ AreWithin point_limit (length fs) numbers
