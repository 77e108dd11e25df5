-- The best cell of a column: how each further cell changes it, and what it is in the end.
use Rattle.std.proofs.Common.{◌≡◌, ℕ, ◌+◌, ◌<◌, ap, arith, refl, sym, ◌∙◌, subst, ◌⊎◌, inl, inr, List, Option, Some, None, Bool, true, false, length}
use Rattle.std.specs.Prelude.{ℤ, pos, ◌<ℤ◌, ◌≤ℤ◌, slice_get, MatchOption, IfSome}
use Rattle.std.proofs.lemmas.Int.{ints}
use Rattle.std.proofs.lemmas.Option.{slice_get_within}
use Rattle.sparse_columns.specs.declared.cell.Cell.{Cell}
use Rattle.sparse_columns.specs.declared.column.Column.{Column}
use Rattle.sparse_columns.specs.Numbers.{AreNumbers}
use Rattle.sparse_columns.specs.Columns.{numerator}
use Rattle.linear_forms.specs.LinearProgram.{LinearProgram}
use Rattle.simplex_core.specs.Tableau.{Tableau}
use Rattle.simplex_core.specs.Bland.{is_candidate, goes_before, IsBest}
use Rattle.simplex_core.specs.declared.column_table.ColumnTable.{ColumnTable}
use Rattle.simplex_core.specs.ColumnTables.{ShowsColumns, IsCellOf, IsBestCell}
use Rattle.simplex_core.proofs.Searches.{last_or_before}
use Rattle.simplex_core.proofs.Signs.{positive-shows}
use Rattle.simplex_core.proofs.Choices.{candidate-positive, ratio, before_trans, goes_before-true, goes_before-false, self_not_before, lt-int_lt, le-int_lt, int_lt-true}
use Rattle.simplex_core.proofs.ColumnTableLaws.{column-there, shown-cell}

-- if a property holds of the cells before one, and of that one, it holds of one cell more
cells-more : (cells : List Cell) (m : ℕ) (e : Cell) (Q : Cell → Type 0) → slice_get cells m ≡ Some e
    → ((k : ℕ) (x : Cell) → k < m → slice_get cells k ≡ Some x → Q x) → Q e → (k : ℕ) (x : Cell) → k < m + 1 → slice_get cells k ≡ Some x → Q x
cells-more cells m e Q at before here k x l is = go (last_or_before m k (omega arith))
  where
    go : (k ≡ m) ⊎ (k < m) → Q x
    go (inl s) =
        let same : e ≡ x = let i = sym at ∙ (ap (λ (n : ℕ). slice_get cells n) (sym s) ∙ is) in cc in
        subst Q same here
    go (inr b) = before k x b is

-- a cell with a number above 0 is in a row with an entry above 0
pub cell-candidate : (p : LinearProgram) (a : ColumnTable) (t : Tableau) (j : ℕ) (e : Cell) → ShowsColumns p a t → j < a.width → IsCellOf a j e → pos 0 <ℤ e.number
    → is_candidate t j e.row ≡ true
cell-candidate p a t j e shows l own positive =
    let there = column-there a j l in
    let rows = shows.rows in
    let row = own.row in
    sym (positive-shows e.number there.0.den (t.entry e.row j) (t.scale e.row) there.0.positive (shows.positive e.row (omega arith)) (shown-cell p a t j e there.0 shows own there.1))
    ∙ lt-int_lt (pos 0) e.number positive

-- a cell with a number below 0 isn't in a row with an entry above 0
pub cell-no_candidate : (p : LinearProgram) (a : ColumnTable) (t : Tableau) (j : ℕ) (e : Cell) → ShowsColumns p a t → j < a.width → IsCellOf a j e → e.number ≤ℤ pos 0
    → is_candidate t j e.row ≡ false
cell-no_candidate p a t j e shows l own below =
    let there = column-there a j l in
    let rows = shows.rows in
    let row = own.row in
    sym (positive-shows e.number there.0.den (t.entry e.row j) (t.scale e.row) there.0.positive (shows.positive e.row (omega arith)) (shown-cell p a t j e there.0 shows own there.1))
    ∙ le-int_lt (pos 0) e.number below

-- the best cell is unchanged if the next one is in a row without an entry above 0
pub best_cell-keeps : (p : LinearProgram) (t : Tableau) (c : ℕ) (cells : List Cell) (m : ℕ) (e : Cell) (best : Option Cell) → slice_get cells m ≡ Some e
    → is_candidate t c e.row ≡ false → IsBestCell p t c cells m best → IsBestCell p t c cells (m + 1) best
best_cell-keeps p t c cells m e None at fails best = cells-more cells m e (λ x. is_candidate t c x.row ≡ false) at best fails
best_cell-keeps p t c cells m e (Some d) at fails best =
    (best.0, cells-more cells m e (λ x. is_candidate t c x.row ≡ true → goes_before p t c x.row d.row ≡ false) at best.1 (λ f. cc))

-- the first cell with an entry above 0 is the best
pub best_cell-first : (p : LinearProgram) (t : Tableau) (c : ℕ) (cells : List Cell) (m : ℕ) (e : Cell) → slice_get cells m ≡ Some e
    → is_candidate t c e.row ≡ true → IsBestCell p t c cells m None → IsBestCell p t c cells (m + 1) (Some e)
best_cell-first p t c cells m e at passes none = (
  passes,
  cells-more cells m e (λ x. is_candidate t c x.row ≡ true → goes_before p t c x.row e.row ≡ false) at
      (λ k x l is f. let n = none k x l is in cc) (λ _. self_not_before p t c e.row),
)

-- the best cell is unchanged if the next one's row doesn't go before its row
pub best_cell-stays : (p : LinearProgram) (t : Tableau) (c : ℕ) (cells : List Cell) (m : ℕ) (e d : Cell) → slice_get cells m ≡ Some e
    → goes_before p t c e.row d.row ≡ false → IsBestCell p t c cells m (Some d) → IsBestCell p t c cells (m + 1) (Some d)
best_cell-stays p t c cells m e d at stays best =
    (best.0, cells-more cells m e (λ x. is_candidate t c x.row ≡ true → goes_before p t c x.row d.row ≡ false) at best.1 (λ _. stays))

-- if a cell's row goes before that of the best one, it is the new best cell
pub best_cell-changes : (p : LinearProgram) (t : Tableau) (c : ℕ) (cells : List Cell) (m : ℕ) (e d : Cell) → slice_get cells m ≡ Some e
    → is_candidate t c e.row ≡ true → goes_before p t c e.row d.row ≡ true → IsBestCell p t c cells m (Some d) → IsBestCell p t c cells (m + 1) (Some e)
best_cell-changes p t c cells m e d at passes goes best = (
  passes,
  cells-more cells m e (λ x. is_candidate t c x.row ≡ true → goes_before p t c x.row e.row ≡ false) at
      (λ k x l is f. before x f (best.1 k x l is f) (goes_before p t c x.row e.row) refl) (λ _. self_not_before p t c e.row),
)
  where
    before : (x : Cell) → is_candidate t c x.row ≡ true → goes_before p t c x.row d.row ≡ false → (v : Bool) → goes_before p t c x.row e.row ≡ v
        → goes_before p t c x.row e.row ≡ false
    before x f stays false h = h
    before x f stays true h =
        absurd (goes_before-false p t c x.row d.row stays
        (before_trans (ratio p t c x.row) (ratio p t c e.row) (ratio p t c d.row) (candidate-positive t c x.row f) (candidate-positive t c e.row passes) (candidate-positive t c d.row best.0)
        (goes_before-true p t c x.row e.row h) (goes_before-true p t c e.row d.row goes)))

-- the best of all cells of a column is in the best row; if there is none, no row has an entry above 0
pub best_cell-all : (p : LinearProgram) (a : ColumnTable) (t : Tableau) (c : ℕ) (x : Column) (cells : List Cell) (f : ℕ → ℤ) (best : Option Cell) → ShowsColumns p a t
    → slice_get a.columns.items c ≡ Some x → AreNumbers cells f a.rows → ((i : ℕ) → f i ≡ numerator x i) → IfSome best (λ d. IsCellOf a c d × (pos 0 <ℤ d.number))
    → IsBestCell p t c cells (length cells) best
    → MatchOption best ((i : ℕ) → i < p.rows → is_candidate t c i ≡ false) (λ d. IsBest p t c p.rows d.row)
best_cell-all p a t c x cells f best shows is numbers same own h = go best own h
  where
    found : (i : ℕ) → i < p.rows → is_candidate t c i ≡ true → (k : ℕ) × (e : Cell) × (slice_get cells k ≡ Some e) × (e.row ≡ i)
    found i l cand =
        let rows = shows.rows in
        let above = int_lt-true (pos 0) (numerator x i)
        (positive-shows (numerator x i) x.den (t.entry i c) (t.scale i) x.positive (shows.positive i (omega arith)) (shows.numbers i c x (omega arith) is) ∙ cand) in
        let e = same i in
        numbers.all i (omega arith) (λ zero. omega (arith, ints, zero, above, e))

    go : (o : Option Cell) → IfSome o (λ d. IsCellOf a c d × (pos 0 <ℤ d.number)) → IsBestCell p t c cells (length cells) o
        → MatchOption o ((i : ℕ) → i < p.rows → is_candidate t c i ≡ false) (λ d. IsBest p t c p.rows d.row)
    go None own none = λ i l. none_there i l (is_candidate t c i) refl
      where
        none_there : (i : ℕ) → i < p.rows → (v : Bool) → is_candidate t c i ≡ v → is_candidate t c i ≡ false
        none_there i l false e = e
        none_there i l true e =
            let at = found i l e in
            let fails = none at.0 at.1 (slice_get_within cells at.0 at.1 at.2) at.2 in
            let passes : is_candidate t c at.1.row ≡ true = ap (λ (r : ℕ). is_candidate t c r) at.3 ∙ e in
            cc
    go (Some d) own best = record {
      row = let rows = shows.rows in let row = own.0.row in omega arith;
      candidate = best.0;
      best = λ i l cand.
          let at = found i l cand in
          ap (λ (r : ℕ). goes_before p t c r d.row) (sym at.3)
          ∙ best.1 at.0 at.1 (slice_get_within cells at.0 at.1 at.2) at.2 (ap (λ (r : ℕ). is_candidate t c r) at.3 ∙ cand);
    }
