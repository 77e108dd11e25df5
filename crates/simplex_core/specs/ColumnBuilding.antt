-- The columns while the first table is built from them.
use Rattle.std.specs.Prelude.{◌≡◌, ℕ, ◌+◌, ◌-◌, ◌<◌, ◌≤◌, ℤ, pos, ◌+ℤ◌, ◌-ℤ◌, ◌*ℤ◌, nat_lt, nat_eq, if◌then◌else◌, List}
use Rattle.std.specs.Prelude.{[], ◌∷◌, Some}
use Rattle.std.specs.Prelude.{length, slice_get, slice_index_or}
use Rattle.int_laws.specs.Sums.{sum_to}
use Rattle.sparse_columns.specs.declared.column.Column.{Column}
use Rattle.sparse_columns.specs.Numbers.{alone}
use Rattle.sparse_columns.specs.Columns.{numerator}
use Rattle.simplex_core.specs.declared.problem.Entry.{Entry}
use Rattle.simplex_core.specs.Tableau.{sign_of}

-- there are n columns, of the integers g i j
pub record AreColumns (columns : List Column) (n : ℕ) (g : ℕ → ℕ → ℤ) : Type 0 where
  pub length_is : length columns ≡ n
  pub numbers : (i j : ℕ) (x : Column) → slice_get columns j ≡ Some x → numerator x i ≡ g i j
  pub dens : (j : ℕ) (x : Column) → slice_get columns j ≡ Some x → x.den ≡ pos 1

-- the numbers g, with z added in an entry's row and column
abbrev pub with_entry : Entry → ℤ → (ℕ → ℕ → ℤ) → ℕ → ℕ → ℤ
with_entry e z g i j = g i j +ℤ (if nat_eq j e.col then alone e.row z i else pos 0)

-- the sums of the entries' numbers in each row and column, with the signs of the right sides
abbrev pub entries_at : List Entry → List ℤ → ℕ → ℕ → ℤ
entries_at [] right i j = pos 0
entries_at (e ∷ es) right i j =
    (if nat_eq j e.col then alone e.row (sign_of (slice_index_or right e.row (pos 0)) *ℤ e.value) i else pos 0)
    +ℤ entries_at es right i j

-- what the cost rows, after m equations, add to a column whose numbers in the equations have this sum
abbrev pub costs_at : ℕ → ℤ → ℤ → ℤ → ℕ → ℤ
costs_at m sum first second i = alone m (pos 0 -ℤ sum) i +ℤ (alone (m + 1) first i +ℤ alone (m + 2) second i)

-- the numbers g, with the cost rows after m equations in the first k columns
abbrev pub with_cost_columns : ℕ → (ℕ → ℕ → ℤ) → List ℤ → List ℤ → ℕ → ℕ → ℕ → ℤ
with_cost_columns m g first second k i j =
    g i j +ℤ (if nat_lt j k
    then costs_at m (sum_to m (λ r. g r j)) (slice_index_or first j (pos 0)) (slice_index_or second j (pos 0)) i
    else pos 0)

-- the numbers g, with a column for each artificial unknown after the first n, which has 1 in its row
abbrev pub with_units : ℕ → (ℕ → ℕ → ℤ) → ℕ → ℕ → ℤ
with_units n g i j = if nat_lt j n then g i j else alone (j - n) (pos 1) i

-- the column has the first k right sides, made at least 0 by their signs
pub record HasSides (column : Column) (right : List ℤ) (k : ℕ) : Type 0 where
  pub numbers : (i : ℕ) → i < k
      → numerator column i ≡ sign_of (slice_index_or right i (pos 0)) *ℤ slice_index_or right i (pos 0)
  pub others : (i : ℕ) → k ≤ i → numerator column i ≡ pos 0
  pub den : column.den ≡ pos 1

-- the column has the numbers of the cost rows, after m equations, in addition to its numbers in the equations
pub record IsCosted (old new : Column) (m : ℕ) (first second : ℤ) : Type 0 where
  pub numbers : ((i : ℕ) → m ≤ i → numerator old i ≡ pos 0)
      → (i : ℕ) → numerator new i ≡ numerator old i +ℤ costs_at m (sum_to m (numerator old)) first second i
  pub den : new.den ≡ old.den
