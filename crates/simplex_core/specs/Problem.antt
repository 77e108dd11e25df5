-- The linear program of a problem as it is handed in.
use Rattle.std.specs.Prelude.{◌≡◌, ◌≢◌, ℕ, ◌^◌, ◌<◌, ◌*◌, ◌+◌, ℤ, pos, nat_eq, ◌&&◌, if◌then◌else◌, List, [], ◌∷◌}
use Rattle.std.specs.Prelude.{length, slice_get, slice_index_or, Some}
use Rattle.simplex_core.specs.declared.problem.Problem.{Problem}
use Rattle.simplex_core.specs.declared.problem.Entry.{Entry}
use Rattle.linear_forms.specs.LinearProgram.{LinearProgram, HasNonnegativeCosts}

-- the number at a row and a column, or 0 if none is given
abbrev pub entry_value : List Entry → ℕ → ℕ → ℤ
entry_value [] i j = pos 0
entry_value (e ∷ es) i j = if nat_eq e.row i && nat_eq e.col j then e.value else entry_value es i j

-- the linear program of a problem
unfoldable pub program_of : Problem → LinearProgram
program_of p = record {
  rows = p.rows;
  columns = p.cols;
  entry = entry_value p.entries.items;
  right = λ i. slice_index_or p.right.items i (pos 0);
  first = λ j. slice_index_or p.first.items j (pos 0);
  second = λ j. slice_index_or p.second.items j (pos 0);
}

-- rows and columns are below 2^31; each number lies inside the table, and no cell has two; there is a
-- right side for each row, and there are two costs at least 0 for each column
pub record IsProper (p : Problem) : Type 0 where
  pub rows : p.rows < 2 ^ 31
  pub columns : p.cols < 2 ^ 31
  pub inside : (k : ℕ) (e : Entry) → slice_get p.entries.items k ≡ Some e → (e.row < p.rows) × (e.col < p.cols)
  pub once : (k l : ℕ) (d e : Entry) → k < l → slice_get p.entries.items k ≡ Some d
      → slice_get p.entries.items l ≡ Some e → (d.row ≡ e.row) → (d.col ≢ e.col)
  pub right : length p.right.items ≡ p.rows
  pub first : length p.first.items ≡ p.cols
  pub second : length p.second.items ≡ p.cols
  pub costs : HasNonnegativeCosts (program_of p)

-- how many numbers the equations of a program's table have: for each row its unknowns, artificial unknowns and right
-- side
abbrev pub table_size : LinearProgram → ℕ
table_size p = p.rows * (p.columns + p.rows + 1)

-- the greatest size of a table that is permitted
abbrev pub widest : ℕ
widest = 40000000000
