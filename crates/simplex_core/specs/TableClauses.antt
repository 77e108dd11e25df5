-- The preconditions and results of the operations on a table that shows a tableau, in terms of the tableau alone.
use Rattle.std.specs.Prelude.{◌≡◌, ℕ, ◌<◌, ℤ, pos, List, Some, true, length, slice_get, slice_index, slice_index_or}
use Rattle.frac128.specs.declared.frac.Frac.{Frac}
use Rattle.linear_forms.specs.LinearProgram.{LinearProgram}
use Rattle.simplex_core.specs.Tableau.{Tableau, cost_row, pivot}
use Rattle.simplex_core.specs.Bland.{IsBest, is_candidate, dual_of}
use Rattle.simplex_core.specs.Outcome.{IsInRange, HoldsPoint, IsBasicValue}

-- the list holds the tableau's basic solution, one number for each column of the program
pub record HoldsBasicSolution (p : LinearProgram) (t : Tableau) (at : List Frac) : Type 0 where
  pub length_is : length at ≡ p.columns
  pub each : (j : ℕ) (f : Frac) → slice_get at j ≡ Some f → IsBasicValue p t j f

-- the list holds the columns of the tableau's basis, in the order of the rows
pub record HoldsBasis (p : LinearProgram) (t : Tableau) (basis : List ℕ) : Type 0 where
  pub length_is : length basis ≡ p.rows
  pub each : (i : ℕ) → i < p.rows → slice_index basis i ≡ t.basis i

-- the list is the program's right sides
pub record AreSides (p : LinearProgram) (right : List ℤ) : Type 0 where
  pub length_is : length right ≡ p.rows
  pub each : (i : ℕ) → slice_index_or right i (pos 0) ≡ p.right i

-- the tableau that the table shows is in range
pub record ShowsInRange {Table : Type 0} (shows : LinearProgram → Table → Tableau → Type 0)
    (table : Table) : Type 0 where
  pub each : (p : LinearProgram) (t : Tableau) → shows p table t → IsInRange p t

-- the tableau that the table shows is out of range
pub record ShowsOutOfRange {Table : Type 0} (shows : LinearProgram → Table → Tableau → Type 0)
    (table : Table) : Type 0 where
  pub each : (p : LinearProgram) (t : Tableau) → shows p table t → ¬ IsInRange p t

-- the table shows a tableau in range, in which an equation has an entry above 0 in column c
pub record MayPivot {Table : Type 0} (shows : LinearProgram → Table → Tableau → Type 0) (table : Table)
    (c : ℕ) : Type 0 where
  pub p : LinearProgram
  pub t : Tableau
  pub shown : shows p table t
  pub in_range : IsInRange p t
  pub column : c < p.columns
  pub row : ℕ
  pub within : row < p.rows
  pub candidate : is_candidate t c row ≡ true

-- the new table shows the old one's tableau after the pivot at the best row in column c
pub record IsAdvanced {Table : Type 0} (shows : LinearProgram → Table → Tableau → Type 0) (old new : Table)
    (c : ℕ) : Type 0 where
  pub row : ℕ
  pub best : (p : LinearProgram) (t : Tableau) → shows p old t → IsBest p t c p.rows row
  pub pivoted : (p : LinearProgram) (t : Tableau) → shows p old t → shows p new (pivot t row c)

-- the list holds the basic solution of the tableau that the table shows
pub record GivesSolution {Table : Type 0} (shows : LinearProgram → Table → Tableau → Type 0) (table : Table)
    (at : List Frac) : Type 0 where
  pub each : (p : LinearProgram) (t : Tableau) → shows p table t → HoldsBasicSolution p t at

-- the list holds the basis of the tableau that the table shows
pub record GivesBasis {Table : Type 0} (shows : LinearProgram → Table → Tableau → Type 0) (table : Table)
    (basis : List ℕ) : Type 0 where
  pub each : (p : LinearProgram) (t : Tableau) → shows p table t → HoldsBasis p t basis

-- the table shows a tableau in range of a program with these right sides
pub record MayGiveDual {Table : Type 0} (shows : LinearProgram → Table → Tableau → Type 0) (table : Table)
    (right : List ℤ) : Type 0 where
  pub p : LinearProgram
  pub t : Tableau
  pub shown : shows p table t
  pub in_range : IsInRange p t
  pub sides : AreSides p right

-- the list holds the dual of the tableau that the table shows, of a program with these right sides
pub record GivesDual {Table : Type 0} (shows : LinearProgram → Table → Tableau → Type 0) (table : Table)
    (right : List ℤ) (dual : List Frac) : Type 0 where
  pub each : (p : LinearProgram) (t : Tableau) → shows p table t → AreSides p right
      → HoldsPoint p.rows dual (dual_of p t) (t.scale (cost_row p 0))
