-- The numbers and the cells of a problem.
use Rattle.std.specs.Prelude.{◌≡◌, ◌≢◌, ℕ, ◌<◌, ◌≤◌, ℤ, pos, unsigned_abs, List, Some, slice_get, slice_index_or}
use Rattle.std.specs.Prelude.{length}
use Rattle.simplex_core.specs.declared.problem.Entry.{Entry}
use Rattle.simplex_core.specs.declared.problem.Problem.{Problem}
use Rattle.simplex_core.specs.Sizes.{number_limit}

-- each of the numbers is below 2^31 in absolute value
pub record AreNumbersSmall (numbers : List ℤ) : Type 0 where
  pub each : (k : ℕ) → k < length numbers → unsigned_abs (slice_index_or numbers k (pos 0)) < number_limit

-- some number is 2^31 or more in absolute value
pub record IsOneAbove (numbers : List ℤ) : Type 0 where
  pub position : ℕ
  pub within : position < length numbers
  pub above : number_limit ≤ unsigned_abs (slice_index_or numbers position (pos 0))

-- each entry's number is below 2^31 in absolute value
pub record AreEntriesBelow (entries : List Entry) : Type 0 where
  pub each : (k : ℕ) (e : Entry) → slice_get entries k ≡ Some e → unsigned_abs e.value < number_limit

-- the number of some entry is 2^31 or more in absolute value
pub record IsOneEntryAbove (entries : List Entry) : Type 0 where
  pub position : ℕ
  pub entry : Entry
  pub is : slice_get entries position ≡ Some entry
  pub above : number_limit ≤ unsigned_abs entry.value

-- the entries lie inside the table, and no cell has two
pub record AreInCells (rows columns : ℕ) (entries : List Entry) : Type 0 where
  pub inside : (k : ℕ) (e : Entry) → slice_get entries k ≡ Some e → (e.row < rows) × (e.col < columns)
  pub once : (k l : ℕ) (d e : Entry) → k < l → slice_get entries k ≡ Some d → slice_get entries l ≡ Some e
      → d.row ≡ e.row → d.col ≢ e.col

-- the numbers of a problem are below 2^31 in absolute value
pub record HasSmallNumbers (q : Problem) : Type 0 where
  pub entries : AreEntriesBelow q.entries.items
  pub right : AreNumbersSmall q.right.items
  pub first : AreNumbersSmall q.first.items
  pub second : AreNumbersSmall q.second.items
