-- A sparse row as contracts read it: a list of pairs of a column and a fraction.
use Rattle.std.specs.Prelude.{◌≡◌, ◌≢◌, ℕ, pos, List, Some}
use Rattle.frac128.specs.declared.frac.Frac.{Frac}
use Rattle.sparse_merge.specs.Listing.{listed, IsListing}
use Rattle.sparse_rows.specs.Entries.{fraction_of}

-- the column of an entry
abbrev pub column_of : ℕ × Frac → ℕ
column_of x = x.0

-- the fraction at column j: that of the entry there, or 0
abbrev pub fraction_at : List (ℕ × Frac) → ℕ → Frac
fraction_at row j = fraction_of (listed column_of row j)

-- the columns ascend strictly, and no fraction is 0
pub record IsRow (row : List (ℕ × Frac)) : Type 0 where
  pub ascends : IsListing column_of (λ _. Unit {0}) row
  pub nonzero : (j : ℕ) (x : ℕ × Frac) → listed column_of row j ≡ Some x → x.1.num ≢ pos 0

-- the row has the fraction f at column j, and the other columns are unchanged
pub record IsPut (old : List (ℕ × Frac)) (j : ℕ) (f : Frac) (new : List (ℕ × Frac)) : Type 0 where
  pub here : fraction_at new j ≡ f
  pub others : (i : ℕ) → i ≢ j → fraction_at new i ≡ fraction_at old i
