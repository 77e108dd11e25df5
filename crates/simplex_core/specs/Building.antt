-- The table while it is being filled with integers.
use Rattle.std.specs.Prelude.{◌≡◌, ℕ, zero, suc, ◌+◌, ◌-◌, ◌^◌, ◌<◌, ◌≤◌, ℤ, pos, ◌-ℤ◌, ◌*ℤ◌, unsigned_abs, nat_lt}
use Rattle.std.specs.Prelude.{nat_eq}
use Rattle.std.specs.Prelude.{if◌then◌else◌, List, Some, slice_index_or}
use Rattle.int_laws.specs.Sums.{sum_to}
use Rattle.frac128.specs.declared.frac.Frac.{Frac}
use Rattle.simplex_core.specs.declared.sparse_table.SparseTable.{SparseTable}
use Rattle.simplex_core.specs.declared.problem.Entry.{Entry}
use Rattle.simplex_core.specs.Tableau.{sign_of}
use Rattle.simplex_core.specs.Problem.{entry_value}
use Rattle.simplex_core.specs.Cells.{width, cell, ChangesCell}

-- each number of the table is the integer g i j
pub record HoldsWhole (table : SparseTable) (g : ℕ → ℕ → ℤ) : Type 0 where
  pub num : (i j : ℕ) (f : Frac) → i < table.rows + 3 → j < width table → cell table i j ≡ Some f → f.num ≡ g i j
  pub den : (i j : ℕ) (f : Frac) → i < table.rows + 3 → j < width table → cell table i j ≡ Some f → f.den ≡ pos 1

-- the numbers of the first entries, with the signs of the right sides
abbrev pub signed_entries : List Entry → List ℤ → ℕ → ℕ → ℤ
signed_entries es right i j = sign_of (slice_index_or right i (pos 0)) *ℤ entry_value es i j

-- the numbers g, with the artificial unknown and the right side of each of the first k of m rows after n columns
abbrev pub with_equations : ℕ → ℕ → List ℤ → (ℕ → ℕ → ℤ) → ℕ → ℕ → ℕ → ℤ
with_equations m n right g k i j =
    if nat_lt i k
    then (if nat_eq j (n + i) then pos 1
    else if nat_eq j (n + m) then sign_of (slice_index_or right i (pos 0)) *ℤ slice_index_or right i (pos 0)
    else g i j)
    else g i j

-- the numbers of a column in the cost rows: the negated sum of the equations' numbers, then the first and the second
-- costs
abbrev pub cost_number : ℕ → (ℕ → ℕ → ℤ) → List ℤ → List ℤ → ℕ → ℕ → ℤ
cost_number m g first second zero j = pos 0 -ℤ sum_to m (λ r. g r j)
cost_number m g first second (suc zero) j = slice_index_or first j (pos 0)
cost_number m g first second (suc (suc q)) j = slice_index_or second j (pos 0)

-- the numbers g, with the cost rows after m equations, in the first k columns
abbrev pub with_costs : ℕ → (ℕ → ℕ → ℤ) → List ℤ → List ℤ → ℕ → ℕ → ℕ → ℤ
with_costs m g first second k i j =
    if nat_lt i m then g i j else if nat_lt j k then cost_number m g first second (i - m) j else g i j

-- the number in row i and column j is 0
pub record IsZeroAt (table : SparseTable) (i j : ℕ) : Type 0 where
  pub each : (f : Frac) → cell table i j ≡ Some f → f.num ≡ pos 0

-- from row k on, the artificial unknown of each equation is still 0 in the equation
pub record AreZeroFrom (table : SparseTable) (k : ℕ) : Type 0 where
  pub each : (i : ℕ) → k ≤ i → i < table.rows → IsZeroAt table i (table.columns + i)

-- the cost rows are still 0 in the program's columns from column k on
pub record AreCostsZeroFrom (table : SparseTable) (k : ℕ) : Type 0 where
  pub each : (q j : ℕ) → q < 3 → k ≤ j → j < table.columns → IsZeroAt table (table.rows + q) j

-- the list has the sums of the numbers g over m rows, one sum for each of n columns
pub record AreSumsOf (g : ℕ → ℕ → ℤ) (m n : ℕ) (sums : List ℤ) : Type 0 where
  pub each : (j : ℕ) → j < n → slice_index_or sums j (pos 0) ≡ sum_to m (λ i. g i j)

-- each of the numbers has an absolute value below 2^127
pub record AreNarrowNumbers (numbers : List ℤ) : Type 0 where
  pub each : (k : ℕ) → unsigned_abs (slice_index_or numbers k (pos 0)) < 2 ^ 127

-- an integer is written in a row and a column, and nothing else in the table changes
pub record WritesWhole (old new : SparseTable) (row column : ℕ) (number : ℤ) : Type 0 where
  pub changes : ChangesCell old new row column
  pub num : (f : Frac) → cell new row column ≡ Some f → f.num ≡ number
  pub den : (f : Frac) → cell new row column ≡ Some f → f.den ≡ pos 1

-- the table has the same rows, columns and basis
pub record KeepsShape (old new : SparseTable) : Type 0 where
  pub rows : new.rows ≡ old.rows
  pub columns : new.columns ≡ old.columns
  pub basis : new.basis.items ≡ old.basis.items
