-- A row plus a multiple of another.
use Rattle.std.specs.Prelude.{ℕ, ◌<◌, List}
use Rattle.frac128.specs.declared.frac.Frac.{Frac}
use Rattle.sparse_rows.specs.declared.row.SparseError.{SparseError}
use Rattle.sparse_rows.specs.declared.row.SparseError.TheVariants.{Range, Memory}
use Rattle.sparse_merge.specs.declared.merging.Stop.{Stop}
use Rattle.sparse_merge.specs.declared.merging.Stop.TheVariants as stops
use Rattle.sparse_merge.specs.declared.merging.Stop.TheVariants.{Refused}
use Rattle.sparse_rows.specs.Entries.{IsPlusMultiple, IsWithin, IsBeyond}
use Rattle.sparse_rows.specs.Rows.{fraction_at}

-- at each column the row has exactly the value of `here` plus `by` times that of `there`, and no product or sum gives
-- `Range`
pub record IsRowPlusMultiple (here : List (ℕ × Frac)) (by : Frac) (there made : List (ℕ × Frac)) : Type 0 where
  pub value : (j : ℕ) → IsPlusMultiple (fraction_at here j) by (fraction_at there j) (fraction_at made j)
  pub within : (j : ℕ) → IsWithin (fraction_at here j) by (fraction_at there j)

-- the column is the least at which the product or the sum gives `Range`
pub record IsLeastBeyond (here : List (ℕ × Frac)) (by : Frac) (there : List (ℕ × Frac)) (col : ℕ) : Type 0 where
  pub beyond : IsBeyond (fraction_at here col) by (fraction_at there col)
  pub before : (j : ℕ) → j < col → IsWithin (fraction_at here j) by (fraction_at there j)

-- why there is no row: the least such column, or memory ran out, which may happen at any time
abbrev pub IsRefusal : List (ℕ × Frac) → Frac → List (ℕ × Frac) → SparseError → Type 0
IsRefusal here by there (Range col) = IsLeastBeyond here by there col
IsRefusal here by there Memory = Unit {0}

-- the error of a merge that was stopped: the place of the merge is the column
abbrev pub error_of_stop : Stop → SparseError
error_of_stop (Refused k) = Range k
error_of_stop stops.Memory = Memory
