-- The cells of a table, in terms of its lines and right sides.
use Rattle.std.proofs.Common.{◌≡◌, ◌≢◌, ℕ, ◌+◌, ◌<◌, ◌≤◌, ap, arith, refl, sym, ◌∙◌, subst, ◌⊎◌, inl, inr, Bool, true, false, List, Option, Some, None, Ok, Err, length}
use Rattle.std.specs.Prelude.{ℤ, pos, ◌*ℤ◌, if◌then◌else◌, slice_get, slice_set, MatchBool, Result, IfOk, OnErr}
use Rattle.std.specs.declared.alloc.AllocError.{AllocError}
use Rattle.std.proofs.lemmas.Bool.{eq-eqb, ne_eqb, cases_lt}
use Rattle.frac128.specs.declared.frac.Frac.{Frac}
use Rattle.frac128.specs.Fraction.{IsFraction}
use Rattle.frac128.specs.Zero.{zero, zero-num, zero-den}
use Rattle.frac128.proofs.Identity.{same_zero}
use Rattle.sparse_rows.specs.Rows.{fraction_at, IsPut}
use Rattle.simplex_core.specs.declared.sparse_table.SparseTable.{SparseTable}
use Rattle.simplex_core.specs.Cells.{width, cell, entry_of, IsLineOf, SetsLine, IsRowBelow, HasLargeIn, ChangesCell, ChangesRow, IsRowDivided}
use Rattle.simplex_core.specs.Lines.{IsBounded, AreBounded, IsLineBelow, HasLargeEntry, IsLineDivided, AreAllEmpty}
use Rattle.simplex_core.specs.Building.{WritesWhole, IsZeroAt, HoldsWhole, AreZeroFrom, AreCostsZeroFrom}
use Rattle.simplex_core.specs.Sizes.{IsBelow}
use Rattle.simplex_core.specs.Positions.{InTable}
use Rattle.simplex_core.proofs.Positions.{slice_get-there, slice_get-set_same, slice_get-set_other}
use Rattle.simplex_core.proofs.Invariant.{same_or_other}

-- before the right sides, a cell is one of its line
pub cell-line : (a : SparseTable) (i j : ℕ) → j < a.columns + a.rows → cell a i j ≡ entry_of (slice_get a.lines.items i) j
cell-line a i j l =
    ap (λ (b : Bool). if b then slice_get a.right.items i else entry_of (slice_get a.lines.items i) j) (ne_eqb j (a.columns + a.rows) (λ e. absurd (omega arith)))

-- the last cell of a row is its right side
pub cell-side : (a : SparseTable) (i j : ℕ) → j ≡ a.columns + a.rows → cell a i j ≡ slice_get a.right.items i
cell-side a i j e =
    ap (λ (b : Bool). if b then slice_get a.right.items i else entry_of (slice_get a.lines.items i) j) (eq-eqb j (a.columns + a.rows) e)

-- a table has a number at each of its positions
pub cell-there : (a : SparseTable) (i j : ℕ) → InTable a.rows a.columns i j → (f : Frac) × (cell a i j ≡ Some f)
cell-there a i j inside = go (cases_lt j (a.columns + a.rows))
  where
    go : (j < a.columns + a.rows) ⊎ (a.columns + a.rows ≤ j) → (f : Frac) × (cell a i j ≡ Some f)
    go (inl l) =
        let row = inside.row in
        let shape = a.shape in
        let line = slice_get-there a.lines.items i (omega arith) in
        (fraction_at line.0 j, cell-line a i j l ∙ ap (λ o. entry_of o j) line.1)
    go (inr l) =
        let column = inside.column in
        let sides = a.sides in
        let side = slice_get-there a.right.items i (equation (cases_lt i a.rows)) in
        (side.0, cell-side a i j (omega arith) ∙ side.1)
      where
        equation : (i < a.rows) ⊎ (a.rows ≤ i) → i < length a.right.items
        equation (inl m) = let sides = a.sides in omega arith
        equation (inr m) = absurd (let last = inside.cost m in omega arith)

-- after a row's line is replaced, the table's cells are those of the new line
pub sets-line : (a b : SparseTable) (row : ℕ) (line : List (ℕ × Frac)) → b.lines.items ≡ slice_set a.lines.items row line → b.right.items ≡ a.right.items
    → b.rows ≡ a.rows → b.columns ≡ a.columns → b.basis.items ≡ a.basis.items → row < a.rows + 3 → SetsLine a b row line
sets-line a b row line lines right rows columns basis within = record {
  rows = rows;
  columns = columns;
  basis = basis;
  written = λ j l.
      let shape = a.shape in
      cell-line b row j (omega (arith, rows, columns))
      ∙ ap (λ o. entry_of o j) (ap (λ (xs : List (List (ℕ × Frac))). slice_get xs row) lines ∙ slice_get-set_same a.lines.items row line (omega arith));
  others = λ i j apart w. go i j apart w (cases_lt j (a.columns + a.rows));
}
  where
    go : (i j : ℕ) → (i ≡ row → j < a.columns + a.rows → ⊥) → j < width a → (j < a.columns + a.rows) ⊎ (a.columns + a.rows ≤ j) → cell b i j ≡ cell a i j
    go i j apart w (inl l) =
        cell-line b i j (omega (arith, rows, columns))
        ∙ (ap (λ o. entry_of o j) (ap (λ (xs : List (List (ℕ × Frac))). slice_get xs i) lines ∙ slice_get-set_other a.lines.items row i line (λ e. apart e l))
        ∙ sym (cell-line a i j l))
    go i j apart w (inr l) =
        cell-side b i j (omega (arith, rows, columns))
        ∙ (ap (λ (xs : List Frac). slice_get xs i) right ∙ sym (cell-side a i j (omega arith)))

-- a right side read from the table is the cell there
pub side-read : (a : SparseTable) (i : ℕ) (f g : Frac) → slice_get a.right.items i ≡ Some g → cell a i (a.columns + a.rows) ≡ Some f → g ≡ f
side-read a i f g read is = let side = cell-side a i (a.columns + a.rows) refl in cc

-- the line of a row below a limit is below the limit
pub line-below : (a : SparseTable) (i bits : ℕ) (line : List (ℕ × Frac)) → i < a.rows + 3 → IsLineOf a i line → IsRowBelow bits a i
    → IsBelow bits zero → IsLineBelow bits line
line-below a i bits line row of small none = record { each = λ j. go j (cases_lt j (a.columns + a.rows)) }
  where
    go : (j : ℕ) → (j < a.columns + a.rows) ⊎ (a.columns + a.rows ≤ j) → IsBelow bits (fraction_at line j)
    go j (inl l) = small.each j (fraction_at line j) (record { row = row; column = omega arith; cost = λ _. l }) (of.each j l)
    go j (inr l) = subst (λ (f : Frac). IsBelow bits f) (sym (same_zero (fraction_at line j) (of.bounded.each j l))) none

-- a row whose line and right side are below the limit is below it
pub row-below : (a : SparseTable) (i : ℕ) (line : List (ℕ × Frac)) → IsLineOf a i line → IsLineBelow 31 line
    → ((f : Frac) → i < a.rows → cell a i (a.columns + a.rows) ≡ Some f → IsBelow 31 f) → IsRowBelow 31 a i
row-below a i line of small side = record { each = λ j f inside is. go j f inside is (cases_lt j (a.columns + a.rows)) (cases_lt i a.rows) }
  where
    go : (j : ℕ) (f : Frac) → InTable a.rows a.columns i j → cell a i j ≡ Some f → (j < a.columns + a.rows) ⊎ (a.columns + a.rows ≤ j)
        → (i < a.rows) ⊎ (a.rows ≤ i) → IsBelow 31 f
    go j f inside is (inl l) w = let read = of.each j l in let same : fraction_at line j ≡ f = cc in subst (λ (g : Frac). IsBelow 31 g) same (small.each j)
    go j f inside is (inr l) (inl m) =
        let column = inside.column in
        side f m (subst (λ (k : ℕ). cell a i k ≡ Some f) (omega arith) is)
    go j f inside is (inr l) (inr m) = absurd (let last = inside.cost m in omega arith)

-- a large number of a line is a large number of its row
pub row-large : (a : SparseTable) (i : ℕ) (line : List (ℕ × Frac)) → i < a.rows + 3 → IsLineOf a i line → IsBelow 31 zero → HasLargeEntry line → HasLargeIn a i
row-large a i line row of none large = go (cases_lt large.column (a.columns + a.rows))
  where
    go : (large.column < a.columns + a.rows) ⊎ (a.columns + a.rows ≤ large.column) → HasLargeIn a i
    go (inl l) = record {
      column = large.column;
      number = fraction_at line large.column;
      in_table = record { row = row; column = omega arith; cost = λ _. l };
      is = of.each large.column l;
      large = large.large;
    }
    go (inr l) =
        absurd (large.large (subst (λ (f : Frac). IsBelow 31 f) (sym (same_zero (fraction_at line large.column) (of.bounded.each large.column l))) none))

-- if a row's line is below the limit, its right side decides
pub row-tested : (a : SparseTable) (i : ℕ) (line : List (ℕ × Frac)) (g : Frac) (v : Bool) → i < a.rows → IsLineOf a i line → IsLineBelow 31 line
    → slice_get a.right.items i ≡ Some g → MatchBool v (IsBelow 31 g) (¬ IsBelow 31 g) → MatchBool v (IsRowBelow 31 a i) (HasLargeIn a i)
row-tested a i line g true row of small read tested =
    row-below a i line of small (λ f m is. subst (λ (h : Frac). IsBelow 31 h) (side-read a i f g read is) tested)
row-tested a i line g false row of small read tested = record {
  column = a.columns + a.rows;
  number = g;
  in_table = record { row = omega arith; column = omega arith; cost = λ l. absurd (omega arith) };
  is = cell-side a i (a.columns + a.rows) refl ∙ read;
  large = tested;
}

-- after an entry is put before a column into one of the lines, the lines are 0 from that column on if they were before
pub put-bounded : (lines : List (List (ℕ × Frac))) (row : ℕ) (old new : List (ℕ × Frac)) (col m : ℕ) (f : Frac) (result : Result (Unit {0}) AllocError)
    → AreBounded lines m → slice_get lines row ≡ Some old → row < length lines → col < m → IfOk result (λ _. IsPut old col f new) → OnErr result (new ≡ old)
    → AreBounded (slice_set lines row new) m
put-bounded lines row old new col m f result bounded read within below put kept = record { each = λ i line at. go i line at (same_or_other i row) }
  where
    one : (r : Result (Unit {0}) AllocError) → IfOk r (λ _. IsPut old col f new) → OnErr r (new ≡ old) → IsBounded new m
    one (Ok u) p k = record {
      each = λ j l. ap (λ (h : Frac). h.num) (p.others j (λ e. absurd (omega arith))) ∙ (bounded.each row old read).each j l;
    }
    one (Err e) p k = subst (λ (line : List (ℕ × Frac)). IsBounded line m) (sym k) (bounded.each row old read)

    go : (i : ℕ) (line : List (ℕ × Frac)) → slice_get (slice_set lines row new) i ≡ Some line → (i ≡ row) ⊎ (i ≢ row) → IsBounded line m
    go i line at (inl e) =
        let here = slice_get-set_same lines row new within in
        let same : Some new ≡ Some line = sym here ∙ (ap (slice_get (slice_set lines row new)) (sym e) ∙ at) in
        let is : new ≡ line = cc in
        subst (λ (l : List (ℕ × Frac)). IsBounded l m) is (one result put kept)
    go i line at (inr d) = bounded.each i line (sym (slice_get-set_other lines row i new d) ∙ at)

-- putting an entry into a row's line writes an integer
pub put-writes : (a b : SparseTable) (row col : ℕ) (number : ℤ) (old new : List (ℕ × Frac)) (f : Frac) → SetsLine a b row new
    → slice_get a.lines.items row ≡ Some old → col < a.columns + a.rows → f.num ≡ number → f.den ≡ pos 1 → IsPut old col f new
    → WritesWhole a b row col number
put-writes a b row col number old new f sets read below num den put = record {
  changes = record {
    rows = sets.rows;
    columns = sets.columns;
    basis = sets.basis;
    others = λ i j w apart. go i j w apart (same_or_other i row) (cases_lt j (a.columns + a.rows));
  };
  num = λ g is. ap (λ (h : Frac). h.num) (sym (here g is)) ∙ num;
  den = λ g is. ap (λ (h : Frac). h.den) (sym (here g is)) ∙ den;
}
  where
    here : (g : Frac) → cell b row col ≡ Some g → f ≡ g
    here g is = let written = sets.written col below in let put_here = put.here in let same : fraction_at new col ≡ g = cc in sym put_here ∙ same

    go : (i j : ℕ) → j < width a → (i ≡ row → j ≡ col → ⊥) → (i ≡ row) ⊎ (i ≢ row) → (j < a.columns + a.rows) ⊎ (a.columns + a.rows ≤ j)
        → cell b i j ≡ cell a i j
    go i j w apart (inl e) (inl l) =
        ap (λ (k : ℕ). cell b k j) e ∙ (sets.written j l ∙ (ap Some (put.others j (apart e))
        ∙ (sym (cell-line a row j l ∙ ap (λ o. entry_of o j) read) ∙ ap (λ (k : ℕ). cell a k j) (sym e))))
    go i j w apart (inl e) (inr l) = sets.others i j (λ _ m. absurd (omega arith)) w
    go i j w apart (inr d) v = sets.others i j (λ e _. d e) w

-- a row whose line and right side were divided is divided
pub divided-row : (a b d : SparseTable) (row : ℕ) (line new : List (ℕ × Frac)) (side_old side by : Frac) → row < a.rows → IsLineOf a row line
    → SetsLine a b row new → ChangesCell b d row (b.columns + b.rows) → cell d row (b.columns + b.rows) ≡ Some side
    → slice_get a.right.items row ≡ Some side_old → IsLineDivided line by new → IsFraction side (side_old.num *ℤ by.den) (side_old.den *ℤ by.num)
    → IsRowDivided a d row by
divided-row a b d row line new side_old side by within of sets changes written read divided side_divided = record {
  each = λ j f g inside is_f is_g. go j f g inside is_f is_g (cases_lt j (a.columns + a.rows));
}
  where
    go : (j : ℕ) (f g : Frac) → InTable a.rows a.columns row j → cell a row j ≡ Some f → cell d row j ≡ Some g
        → (j < a.columns + a.rows) ⊎ (a.columns + a.rows ≤ j) → IsFraction g (f.num *ℤ by.den) (f.den *ℤ by.num)
    go j f g inside is_f is_g (inl l) =
        let rows = sets.rows in
        let columns = sets.columns in
        let old = of.each j l in
        let middle = sets.written j l in
        let kept = changes.others row j (omega arith) (λ _ e. absurd (omega arith)) in
        let same_f : fraction_at line j ≡ f = cc in
        let same_g : fraction_at new j ≡ g = cc in
        subst (λ (x : Frac). IsFraction g (x.num *ℤ by.den) (x.den *ℤ by.num)) same_f
        (subst (λ (y : Frac). IsFraction y ((fraction_at line j).num *ℤ by.den) ((fraction_at line j).den *ℤ by.num)) same_g (divided.each j))
    go j f g inside is_f is_g (inr l) =
        let rows = sets.rows in
        let columns = sets.columns in
        let column = inside.column in
        let last : j ≡ a.columns + a.rows = omega arith in
        let last_new : j ≡ b.columns + b.rows = omega arith in
        let same_f = side-read a row f side_old read (subst (λ (k : ℕ). cell a row k ≡ Some f) last is_f) in
        let at_end = subst (λ (k : ℕ). cell d row k ≡ Some g) last_new is_g in
        let same_g : side ≡ g = cc in
        subst (λ (x : Frac). IsFraction g (x.num *ℤ by.den) (x.den *ℤ by.num)) same_f
        (subst (λ (y : Frac). IsFraction y (side_old.num *ℤ by.den) (side_old.den *ℤ by.num)) same_g side_divided)

-- a consequence holds of the result if memory doesn't run out
pub when-ok : (P Q : Type 0) (r : Result (Unit {0}) AllocError) → (P → Q) → IfOk r (λ _. P) → IfOk r (λ _. Q)
when-ok P Q (Ok u) follows h = follows h
when-ok P Q (Err e) follows h = tt

-- writing a right side writes an integer
pub side-writes : (a b : SparseTable) (row col : ℕ) (f : Frac) (number : ℤ) → ChangesCell a b row col → cell b row col ≡ Some f → f.num ≡ number → f.den ≡ pos 1
    → WritesWhole a b row col number
side-writes a b row col f number changes written num den = record {
  changes = changes;
  num = λ g is. let same : f ≡ g = cc in ap (λ (h : Frac). h.num) (sym same) ∙ num;
  den = λ g is. let same : f ≡ g = cc in ap (λ (h : Frac). h.den) (sym same) ∙ den;
}

-- a number that is 0 is still 0 after another one is written
pub zero-kept : (a b : SparseTable) (row col : ℕ) (number : ℤ) (i j : ℕ) → WritesWhole a b row col number → j < width a → (i ≡ row → j ≡ col → ⊥)
    → IsZeroAt a i j → IsZeroAt b i j
zero-kept a b row col number i j writes wide apart none = record {
  each = λ f is. none.each f (sym (writes.changes.others i j wide apart) ∙ is);
}

-- the artificial unknowns of later rows are still 0 after a row changes
pub zeros-kept : (a b : SparseTable) (k : ℕ) → AreZeroFrom a k → ChangesRow a b k → AreZeroFrom b (k + 1)
zeros-kept a b k zeros changes = record { each = λ i l m. record { each = λ f is. go i l m f is } }
  where
    go : (i : ℕ) → k + 1 ≤ i → i < b.rows → (f : Frac) → cell b i (b.columns + i) ≡ Some f → f.num ≡ pos 0
    go i l m f is =
        let rows = changes.rows in
        let columns = changes.columns in
        let place : b.columns + i ≡ a.columns + i = omega arith in
        (zeros.each i (omega arith) (omega arith)).each f
        (sym (changes.others i (a.columns + i) (λ e. absurd (omega arith)) (omega arith)) ∙ (ap (λ (j : ℕ). cell b i j) (sym place) ∙ is))

-- later columns of the cost rows are still 0 after one column of theirs is written
pub costs-kept : (a b : SparseTable) (k : ℕ) → AreCostsZeroFrom a k → b.rows ≡ a.rows → b.columns ≡ a.columns
    → ((q j : ℕ) → q < 3 → k < j → j < a.columns → cell b (a.rows + q) j ≡ cell a (a.rows + q) j) → AreCostsZeroFrom b (k + 1)
costs-kept a b k zeros rows columns same = record {
  each = λ q j few l m. record {
    each = λ f is.
        (zeros.each q j few (omega arith) (omega arith)).each f
        (sym (same q j few (omega arith) (omega arith)) ∙ (ap (λ (r : ℕ). cell b (r + q) j) (sym rows) ∙ is));
  };
}

-- a table whose lines have no entries, and whose right sides are 0, has the number 0 everywhere
pub zeros-hold : (a : SparseTable) → AreAllEmpty a.lines.items → ((i : ℕ) (f : Frac) → slice_get a.right.items i ≡ Some f → f ≡ zero)
    → HoldsWhole a (λ _ _. pos 0)
zeros-hold a empty sides = record {
  num = λ i j f l m is. ap (λ (g : Frac). g.num) (each i j f is) ∙ zero-num;
  den = λ i j f l m is. ap (λ (g : Frac). g.den) (each i j f is) ∙ zero-den;
}
  where
    of_line : (i j : ℕ) (f : Frac) (o : Option (List (ℕ × Frac))) → slice_get a.lines.items i ≡ o → entry_of o j ≡ Some f → f ≡ zero
    of_line i j f None e is = cc
    of_line i j f (Some line) e is =
        let none = ap (λ (xs : List (ℕ × Frac)). fraction_at xs j) (empty.each i line e) in
        let same : fraction_at line j ≡ f = cc in
        sym same ∙ none

    each : (i j : ℕ) (f : Frac) → cell a i j ≡ Some f → f ≡ zero
    each i j f is = go (same_or_other j (a.columns + a.rows))
      where
        go : (j ≡ a.columns + a.rows) ⊎ (j ≢ a.columns + a.rows) → f ≡ zero
        go (inl e) = sides i f (sym (cell-side a i j e) ∙ is)
        go (inr d) =
            of_line i j f (slice_get a.lines.items i) refl
            (sym (ap (λ (b : Bool). if b then slice_get a.right.items i else entry_of (slice_get a.lines.items i) j) (ne_eqb j (a.columns + a.rows) d)) ∙ is)

-- lines without entries are 0 from each column on
pub empty-bounded : (lines : List (List (ℕ × Frac))) (m : ℕ) → AreAllEmpty lines → AreBounded lines m
empty-bounded lines m empty = record {
  each = λ i line is. record { each = λ j l. ap (λ (xs : List (ℕ × Frac)). (fraction_at xs j).num) (empty.each i line is) ∙ zero-num };
}
