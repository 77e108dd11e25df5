-- Bland's rule for choosing the pivot, and the sequence of tableaux.
use Rattle.std.specs.Prelude.{◌≡◌, ◌<◌, ℕ, zero, suc, ℤ, pos, ◌-ℤ◌, ◌*ℤ◌, int_lt, nat_lt, nat_le, Bool, true, false}
use Rattle.std.specs.Prelude.{not, ◌&&◌, ◌||◌, if◌then◌else◌, Option, Some, None}
use Rattle.int_laws.specs.NormalForm.{is_zero}
use Rattle.linear_forms.specs.LinearProgram.{LinearProgram}
use Rattle.simplex_core.specs.Search.{every, some, or_else, least}
use Rattle.simplex_core.specs.Tableau.{Tableau, artificial, unknowns, cost_row, sign_of, first_tableau, pivot}

-- column j may enter by cost row k: its reduced cost there is negative, and is 0 in each earlier cost row
abbrev pub may_enter : LinearProgram → Tableau → ℕ → ℕ → Bool
may_enter p t k j =
    int_lt (t.entry (cost_row p k) j) (pos 0) && every k (λ l. is_zero (t.entry (cost_row p l) j))

-- the entering column: the least one that may enter by the first cost row by which any may; artificial columns never
-- enter
abbrev pub entering : LinearProgram → Tableau → Option ℕ
entering p t =
    or_else (least p.columns (may_enter p t 0)) (or_else (least p.columns (may_enter p t 1))
    (least p.columns (may_enter p t 2)))

-- row i has a lesser quotient of right side by entry in column c than row r, or the same and a lesser basic column
abbrev pub goes_before : LinearProgram → Tableau → ℕ → ℕ → ℕ → Bool
goes_before p t c i r =
    let left = t.entry i (unknowns p) *ℤ t.entry r c in
    let right = t.entry r (unknowns p) *ℤ t.entry i c in
    int_lt left right || (not (int_lt right left) && nat_lt (t.basis i) (t.basis r))

-- row i has an entry above 0 in column c
abbrev pub is_candidate : Tableau → ℕ → ℕ → Bool
is_candidate t c i = int_lt (pos 0) (t.entry i c)

-- of the first m rows, row r has an entry above 0 in column c, and no other such row goes before it; for all rows of a
-- tableau of the program this is the leaving row
pub record IsBest (p : LinearProgram) (t : Tableau) (c m r : ℕ) : Type 0 where
  pub row : r < m
  pub candidate : is_candidate t c r ≡ true
  pub best : (i : ℕ) → i < m → is_candidate t c i ≡ true → goes_before p t c i r ≡ false

-- the leaving row: of the rows with an entry above 0 in column c, the one that no other goes before
abbrev pub leaving : LinearProgram → Tableau → ℕ → Option ℕ
leaving p t c =
    least p.rows (λ r. is_candidate t c r && every p.rows (λ i. not (is_candidate t c i && goes_before p t c i r)))

-- the artificial unknowns of the basic solution add up to more than 0: as none of them is below 0, some row is solved
-- for one with a right side above 0 (`ArtificialSumsAreWorkedOut` says that the two are equivalent)
abbrev pub has_artificial : LinearProgram → Tableau → Bool
has_artificial p t = some p.rows (λ i. nat_le p.columns (t.basis i) && int_lt (pos 0) (t.entry i (unknowns p)))

-- the sequence ends as infeasible: in the cost row of the artificial unknowns no column of the program has a negative
-- reduced cost, and the artificial unknowns add up to more than 0
abbrev pub is_infeasible : LinearProgram → Tableau → Bool
is_infeasible p t = every p.columns (λ j. not (int_lt (t.entry (cost_row p 0) j) (pos 0))) && has_artificial p t

-- the numerators, over the scale of the cost row of the artificial unknowns, of the dual at an end as infeasible: 1
-- less the reduced cost of the row's artificial unknown, negated if the row was multiplied by -1
abbrev pub dual_of : LinearProgram → Tableau → ℕ → ℤ
dual_of p t k = sign_of (p.right k) *ℤ (t.scale (cost_row p 0) -ℤ t.entry (cost_row p 0) (artificial p k))

-- the tableau after a pivot at the leaving row, if there is one
abbrev pub pivot_at : Tableau → ℕ → Option ℕ → Option Tableau
pivot_at t c None = None
pivot_at t c (Some r) = Some (pivot t r c)

-- the tableau after the pivot in the entering column, if there is one
abbrev pub step_in : LinearProgram → Tableau → Option ℕ → Option Tableau
step_in p t None = None
step_in p t (Some c) = pivot_at t c (leaving p t c)

-- the next tableau of the sequence, unless it ends at this one
abbrev pub next : LinearProgram → Tableau → Option Tableau
next p t = if is_infeasible p t then None else step_in p t (entering p t)

-- the next tableau, if this one is given
abbrev pub next_of : LinearProgram → Option Tableau → Option Tableau
next_of p None = None
next_of p (Some t) = next p t

-- the tableau after k pivots, unless the sequence ends earlier
abbrev pub tableau_at : LinearProgram → ℕ → Option Tableau
tableau_at p zero = Some (first_tableau p)
tableau_at p (suc k) = next_of p (tableau_at p k)
