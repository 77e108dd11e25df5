-- The lines of a table, each a sparse row.
use Rattle.std.specs.Prelude.{◌≡◌, ℕ, ◌≤◌, pos, ◌*ℤ◌, List, [], Some, slice_get}
use Rattle.frac128.specs.declared.frac.Frac.{Frac}
use Rattle.frac128.specs.Fraction.{IsFraction}
use Rattle.frac128.specs.Zero.{zero}
use Rattle.sparse_rows.specs.Rows.{fraction_at}
use Rattle.simplex_core.specs.Sizes.{IsBelow}

-- from column m on the line is 0
pub record IsBounded (line : List (ℕ × Frac)) (m : ℕ) : Type 0 where
  pub each : (j : ℕ) → m ≤ j → (fraction_at line j).num ≡ pos 0

-- from column m on each of the lines is 0
pub record AreBounded (lines : List (List (ℕ × Frac))) (m : ℕ) : Type 0 where
  pub each : (i : ℕ) (line : List (ℕ × Frac)) → slice_get lines i ≡ Some line → IsBounded line m

-- each number of the line is below 2^bits in numerator and denominator
pub record IsLineBelow (bits : ℕ) (line : List (ℕ × Frac)) : Type 0 where
  pub each : (j : ℕ) → IsBelow bits (fraction_at line j)

-- some number of the line isn't below 2^31
pub record HasLargeEntry (line : List (ℕ × Frac)) : Type 0 where
  pub column : ℕ
  pub large : ¬ IsBelow 31 (fraction_at line column)

-- the new line is the old one divided by a number
pub record IsLineDivided (old : List (ℕ × Frac)) (by : Frac) (new : List (ℕ × Frac)) : Type 0 where
  pub each : (j : ℕ)
      → IsFraction (fraction_at new j) ((fraction_at old j).num *ℤ by.den) ((fraction_at old j).den *ℤ by.num)

-- each of the lines has no entries
pub record AreAllEmpty (lines : List (List (ℕ × Frac))) : Type 0 where
  pub each : (i : ℕ) (line : List (ℕ × Frac)) → slice_get lines i ≡ Some line → line ≡ []

-- each of the fractions is 0
pub record AreAllZero (fs : List Frac) : Type 0 where
  pub each : (i : ℕ) (f : Frac) → slice_get fs i ≡ Some f → f ≡ zero
