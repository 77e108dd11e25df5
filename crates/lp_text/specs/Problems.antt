-- The linear program that a written one denotes, and its problem.
use Rattle.std.specs.Prelude.{◌≡◌, ◌≤◌, ℕ, ℤ, pos, unsigned_abs, List, [], length, map, slice_index_or}
use Rattle.simplex_core.specs.linear_forms.LinearProgram.{LinearProgram}
use Rattle.simplex_core.specs.linear_forms.Forms.{at}
use Rattle.simplex_core.specs.linear_forms.ProgramLaws.{Agree}
use Rattle.simplex_core.specs.declared.problem.Problem.{Problem}
use Rattle.simplex_core.specs.Problem.{program_of, IsProper, table_size, widest}
use Rattle.lp_builder.specs.Entries.{entries_of}
use Rattle.lp_text.specs.Lps.{Row, Lp}
use Rattle.lp_text.specs.Spelled.{IsWithin}

-- the numbers of each row
abbrev pub lines_of : Lp → List (List ℤ)
lines_of p = map (λ r. r.numbers) p.rows

-- the linear program that a written one denotes: an equation for each row and an unknown for each column
abbrev pub program_in : Lp → LinearProgram
program_in p = record {
  rows = length p.rows;
  columns = unsigned_abs p.columns;
  entry = λ i j. at (slice_index_or (lines_of p) i []) j;
  right = λ i. at (map (λ r. r.right) p.rows) i;
  first = λ j. at (map pos p.first) j;
  second = λ j. at (map pos p.second) j;
}

-- the problem has the rows, the columns, the nonzero numbers in the order of rows and columns, the right sides and the
-- costs that are written
pub record IsProblemOf (p : Lp) (q : Problem) : Type 0 where
  pub rows : q.rows ≡ length p.rows
  pub columns : q.cols ≡ unsigned_abs p.columns
  pub entries : q.entries.items ≡ entries_of 0 (lines_of p)
  pub right : q.right.items ≡ map (λ r. r.right) p.rows
  pub first : q.first.items ≡ map pos p.first
  pub second : q.second.items ≡ map pos p.second

-- the problem of a linear program within the limits satisfies the precondition of `solve`, its linear program agrees
-- with the written one, and its table is narrow enough for `solve`
pub record ProblemsAreMeant : Type 0 where
  pub proper : (p : Lp) (q : Problem) → IsWithin p → IsProblemOf p q → IsProper q
  pub agrees : (p : Lp) (q : Problem) → IsWithin p → IsProblemOf p q → Agree (program_of q) (program_in p)
  pub narrow : (p : Lp) (q : Problem) → IsWithin p → IsProblemOf p q → table_size (program_of q) ≤ widest
