-- Worked values of bases and their numbers.
use Rattle.std.specs.Prelude.{◌≡◌, ◌≢◌, ℕ, zero, suc, ◌+◌, ◌-◌, ◌^◌, pos, Some, None}
use Rattle.linear_forms.specs.LinearProgram.{LinearProgram}
use Rattle.simplex_core.specs.Tableau.{Tableau}
use Rattle.simplex_core.specs.Bland.{tableau_at}
use Rattle.bland_end.specs.Bases.{IsBasic, HaveSameBasis}
use Rattle.bland_end.specs.Counting.{choose, bases_of, below_limit}

-- a program with this many rows and columns, in which each equation is that the sum of the unknowns is 3
abbrev pub sums : ℕ → ℕ → LinearProgram
sums rows columns = record {
  rows = rows;
  columns = columns;
  entry = λ i j. pos 1;
  right = λ i. pos 3;
  first = λ j. pos 0;
  second = λ j. pos 0;
}

-- the function that is a for the first row, and b for the others
abbrev pub first_and_others : ℕ → ℕ → ℕ → ℕ
first_and_others a b zero = a
first_and_others a b (suc i) = b

-- a tableau whose first row is solved for unknown a, and whose other rows are for unknown b
abbrev pub solved_for : ℕ → ℕ → Tableau
solved_for a b = record {
  entry = λ i j. pos 0;
  scale = λ i. pos 1;
  basis = first_and_others a b;
}

-- 3 things have 3 sets of one and 1 set of none, 4 things have 6 sets of two, and 2 things have no set of three
pub record SetsAreCounted : Type 0 where
  pub ones : choose 3 1 ≡ 3
  pub twos : choose 4 2 ≡ 6
  pub without_order : choose 4 2 ≢ 12
  pub past : choose 2 3 ≡ 0
  pub empty : (n : ℕ) → choose n 0 ≡ 1

-- for 2 rows and 3 columns the bound is 10, and without rows it is 1; for 17 rows it is 2,333,606,220 with 17 columns,
-- which is below 2^32, and 4,537,567,650 with 18; 2^32-1 is below the limit, and 2^32 isn't
pub record BasesAreCounted : Type 0 where
  pub few : bases_of (sums 2 3) ≡ 10
  pub no_rows : (n : ℕ) → bases_of (sums 0 n) ≡ 1
  pub below : (n : ℕ) → n ≡ 17 → below_limit (choose (n + 17) 17) ≡ Some 2333606220
  pub above : (n : ℕ) → n ≡ 18 → below_limit (choose (n + 17) 17) ≡ None
  pub greatest : below_limit (2 ^ 32 - 1) ≡ Some (2 ^ 32 - 1)
  pub past : below_limit (2 ^ 32) ≡ None

-- the basis of two rows doesn't depend on their order, but it depends on the unknowns
pub record BasesAreCompared : Type 0 where
  pub basic : IsBasic (sums 2 3) (solved_for 0 2) 2
  pub not_basic : ¬ IsBasic (sums 2 3) (solved_for 0 2) 1
  pub same : HaveSameBasis (sums 2 3) (solved_for 0 2) (solved_for 2 0)
  pub other : ¬ HaveSameBasis (sums 2 3) (solved_for 0 2) (solved_for 0 1)

-- the bound on pivots can't be lowered: one row and one column have 2 bases, and the sequence ends after 1 pivot
pub record BoundIsReached : Type 0 where
  pub bases : bases_of (sums 1 1) ≡ 2
  pub there : (t : Tableau) × (tableau_at (sums 1 1) 1 ≡ Some t)
  pub last : tableau_at (sums 1 1) 2 ≡ None

-- all worked values of bases
pub record BasesAreWorkedOut : Type 0 where
  pub sets : SetsAreCounted
  pub counted : BasesAreCounted
  pub compared : BasesAreCompared
  pub bound : BoundIsReached
