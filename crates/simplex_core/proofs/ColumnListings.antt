-- Maintaining the lists of columns of the rows.
use Rattle.std.proofs.Common.{◌≡◌, ◌≢◌, ℕ, zero, suc, ◌+◌, ◌<◌, ◌≤◌, ap, arith, refl, sym, ◌∙◌, subst, ◌⊎◌, inl, inr, Bool, true, false, List, [], ◌∷◌, ◌++◌, Some, length, length-append, replicate}
use Rattle.std.specs.Prelude.{ℤ, pos, ◌-ℤ◌, ◌*ℤ◌, ◌<ℤ◌, slice_get, slice_set}
use Rattle.std.proofs.lemmas.Int.{ints}
use Rattle.std.proofs.lemmas.List.{length-set}
use Rattle.std.proofs.lemmas.Option.{slice_get_within, same_Some}
use Rattle.int_laws.specs.NormalForm.{is_zero}
use Rattle.int_laws.proofs.OrderLaws.{mul-cancel_ℤ}
use Rattle.int_laws.proofs.RingLaws.{mul_comm_ℤ, zero-mul_ℤ, mul-zero_ℤ}
use Rattle.int_laws.proofs.ZeroLaws.{is_zero-true}
use Rattle.sparse_columns.specs.declared.cell.Cell.{Cell}
use Rattle.sparse_columns.specs.declared.column.Column.{Column}
use Rattle.sparse_columns.specs.Numbers.{number_of}
use Rattle.sparse_columns.specs.Columns.{numerator, IsCleared}
use Rattle.simplex_core.specs.declared.column_table.lists.RowColumns.{RowColumns}
use Rattle.simplex_core.specs.ColumnListing.{Contains, Names, AreListed, PutsCells, AreTouched, AreMarked, AreBlank, Covers, Unmarks, UnmarksAt, HasAll, HasBoth}
use Rattle.simplex_core.proofs.Positions.{slice_get-set_same, slice_get-set_other, slice_get-there}
use Rattle.simplex_core.proofs.Extraction.{slice_get-last, slice_get-before}
use Rattle.simplex_core.proofs.Searches.{last_or_before}
use Rattle.simplex_core.proofs.Invariant.{same_or_other}

-- a number is 0 or isn't
pub zero_or_other : (z : ℤ) → (z ≡ pos 0) ⊎ (z ≢ pos 0)
zero_or_other z = go (is_zero z) refl
  where
    go : (b : Bool) → is_zero z ≡ b → (z ≡ pos 0) ⊎ (z ≢ pos 0)
    go true e = inl (is_zero-true z e)
    go false e = inr (λ h. let one : is_zero z ≡ is_zero (pos 0) = ap is_zero h in cc)

-- a list with others appended names what it named
append-first : (xs ys : List ℕ) (k j : ℕ) → slice_get xs k ≡ Some j → slice_get (xs ++ ys) k ≡ Some j
append-first [] ys k j is = cc
append-first (x ∷ xs) ys zero j is = is
append-first (x ∷ xs) ys (suc k) j is = append-first xs ys k j is

-- a list with others appended names the others, too
append-second : (xs ys : List ℕ) (k : ℕ) → slice_get (xs ++ ys) (length xs + k) ≡ slice_get ys k
append-second [] ys k = let e : 0 + k ≡ k = omega arith in ap (λ (n : ℕ). slice_get ys n) e
append-second (x ∷ xs) ys k =
    let e : suc (length xs) + k ≡ suc (length xs + k) = omega arith in
    ap (λ (n : ℕ). slice_get (x ∷ (xs ++ ys)) n) e ∙ append-second xs ys k

-- an appended list names what each of the two does
pub both-append : (xs ys : List ℕ) → HasBoth xs ys (xs ++ ys)
both-append xs ys = record {
  first = record { each = λ j h. record { at = h.at; is = append-first xs ys h.at j h.is } };
  second = record { each = λ j h. record { at = length xs + h.at; is = append-second xs ys h.at ∙ h.is } };
}

-- a list with one more column appended names what it named
contains-before : (xs : List ℕ) (x j : ℕ) → Contains xs j → Contains (xs ++ (x ∷ [])) j
contains-before xs x j h = (both-append xs (x ∷ [])).first.each j h

-- a list with one more column appended names that column
contains-last : (xs : List ℕ) (x : ℕ) → Contains (xs ++ (x ∷ [])) x
contains-last xs x = record { at = length xs; is = slice_get-last xs x }

-- replacing one row's list changes nothing in the other rows' lists
pub names-other : (lists : List RowColumns) (r : ℕ) (s : RowColumns) (i j : ℕ) → i ≢ r → Names lists i j → Names (slice_set lists r s) i j
names-other lists r s i j d h = record { list = h.list; of = slice_get-set_other lists r i s d ∙ h.of; has = h.has }

-- if a row's list is replaced by one that names at least the same, each list names what it named
names-kept : (lists : List RowColumns) (r : ℕ) (l s : RowColumns) (i j : ℕ) → slice_get lists r ≡ Some l → HasAll l.columns.items s.columns.items → Names lists i j
    → Names (slice_set lists r s) i j
names-kept lists r l s i j is all h = go (same_or_other i r)
  where
    go : (i ≡ r) ⊎ (i ≢ r) → Names (slice_set lists r s) i j
    go (inl e) =
        let same : l ≡ h.list = same_Some l h.list (sym is ∙ (ap (λ (k : ℕ). slice_get lists k) (sym e) ∙ h.of)) in
        record {
          list = s;
          of = ap (λ (k : ℕ). slice_get (slice_set lists r s) k) e ∙ slice_get-set_same lists r s (slice_get_within lists r l is);
          has = all.each j (subst (λ (y : RowColumns). Contains y.columns.items j) (sym same) h.has);
        }
    go (inr d) = names-other lists r s i j d h

-- a replaced list names what the new one does
pub names-here : (lists : List RowColumns) (r : ℕ) (l s : RowColumns) (j : ℕ) → slice_get lists r ≡ Some l → Contains s.columns.items j → Names (slice_set lists r s) r j
names-here lists r l s j is has = record { list = s; of = slice_get-set_same lists r s (slice_get_within lists r l is); has = has }

-- before any cell, no column has been appended
pub cells-none : (lists : List RowColumns) (cells : List Cell) (j : ℕ) → PutsCells lists lists cells j 0
cells-none lists cells j = record { length_is = refl; kept = λ k l h. h; put = λ k c l is. absurd (omega arith) }

-- after one more cell, the column is appended to its row's list, too
pub cells-more : (a b : List RowColumns) (cells : List Cell) (c : Cell) (j m : ℕ) (l s : RowColumns) → PutsCells a b cells j m → slice_get b c.row ≡ Some l
    → s.columns.items ≡ l.columns.items ++ (j ∷ []) → slice_get cells m ≡ Some c → PutsCells a (slice_set b c.row s) cells j (m + 1)
cells-more a b cells c j m l s all is more at = record {
  length_is = length-set b c.row s ∙ all.length_is;
  kept = λ k n h. names-kept b c.row l s k n is has (all.kept k n h);
  put = λ k e below there. go k e there (last_or_before m k (omega arith));
}
  where
    has : HasAll l.columns.items s.columns.items
    has = subst (λ (xs : List ℕ). HasAll l.columns.items xs) (sym more) (both-append l.columns.items (j ∷ [])).first

    go : (k : ℕ) (e : Cell) → slice_get cells k ≡ Some e → (k ≡ m) ⊎ (k < m) → Names (slice_set b c.row s) e.row j
    go k e there (inl same) =
        let cell : c ≡ e = same_Some c e (sym at ∙ (ap (λ (i : ℕ). slice_get cells i) (sym same) ∙ there)) in
        subst (λ (f : Cell). Names (slice_set b c.row s) f.row j) cell
        (names-here b c.row l s j is (subst (λ (xs : List ℕ). Contains xs j) (sym more) (contains-last l.columns.items j)))
    go k e there (inr below) = names-kept b c.row l s e.row j is has (all.put k e below there)

-- after one more column is put, the lists name the columns with a number among one column more
pub listed-more : (columns : List Column) (a b : List RowColumns) (n m : ℕ) (x : Column) (cells : List Cell) → AreListed columns a n m → PutsCells a b cells m (length cells)
    → slice_get columns m ≡ Some x
    → ((i : ℕ) → i < n → numerator x i ≢ pos 0 → (k : ℕ) × (c : Cell) × (slice_get cells k ≡ Some c) × (c.row ≡ i)) → AreListed columns b n (m + 1)
listed-more columns a b n m x cells are puts at found = record { each = λ i j y l lj is d. go i j y l is d (last_or_before m j (omega arith)) }
  where
    go : (i j : ℕ) (y : Column) → i < n → slice_get columns j ≡ Some y → numerator y i ≢ pos 0 → (j ≡ m) ⊎ (j < m) → Names b i j
    go i j y l is d (inl e) =
        let same : y ≡ x = same_Some y x (sym is ∙ (ap (λ (k : ℕ). slice_get columns k) e ∙ at)) in
        let there = found i l (subst (λ (w : Column). numerator w i ≢ pos 0) same d) in
        subst (λ (k : ℕ). Names b i k) (sym e)
        (subst (λ (k : ℕ). Names b k m) there.3
        (puts.put there.0 there.1 (slice_get_within cells there.0 there.1 there.2) there.2))
    go i j y l is d (inr lj) = puts.kept i j (are.each i j y l lj is d)

-- in a list of blank marks none is set
no-mark : (n j : ℕ) → slice_get (replicate n false) j ≡ Some true → ⊥
no-mark zero j e = cc
no-mark (suc n) zero e = cc
no-mark (suc n) (suc j) e = no-mark n j e

-- there are this many marks
length-marks : (n : ℕ) → length (replicate n false) ≡ n
length-marks zero = refl
length-marks (suc n) = ap suc (length-marks n)

-- such marks are blank marks for this many columns
pub blank-none : (marks : List Bool) (n m : ℕ) → marks ≡ replicate n false → n ≡ m → AreBlank marks m
blank-none marks n m e f = record {
  length_is = ap (λ (ms : List Bool). length ms) e ∙ (length-marks n ∙ f);
  each = λ j mark. no-mark n j (ap (λ (ms : List Bool). slice_get ms j) (sym e) ∙ mark);
}

-- blank marks are blank for an equal number of columns
pub blank-sizes : (marks more : List Bool) (n m : ℕ) → AreBlank marks n → more ≡ marks → m ≡ n → AreBlank more m
blank-sizes marks more n m blank e f = record {
  length_is = ap (λ (ms : List Bool). length ms) e ∙ (blank.length_is ∙ sym f);
  each = λ j mark. blank.each j (ap (λ (ms : List Bool). slice_get ms j) (sym e) ∙ mark);
}

-- at first no mark has been removed
pub unmark-none : (marks : List Bool) (touched : List ℕ) → Unmarks marks marks touched 0
unmark-none marks touched = record { length_is = refl; each = λ k mark. (mark, λ n l. absurd (omega arith)) }

-- one more mark is removed
pub unmark-more : (a b d : List Bool) (touched : List ℕ) (m p : ℕ) → Unmarks a b touched m → UnmarksAt b d p → slice_get touched m ≡ Some p → Unmarks a d touched (m + 1)
unmark-more a b d touched m p all one at = record {
  length_is = one.length_is ∙ all.length_is;
  each = λ k mark.
      let here = one.each k mark in
      let before = all.each k here.0 in
      (before.0, λ n l is. apart k n here.1 before.1 is (last_or_before m n (omega arith)));
}
  where
    apart : (k n : ℕ) → k ≢ p → ((o : ℕ) → o < m → slice_get touched o ≢ Some k) → slice_get touched n ≡ Some k → (n ≡ m) ⊎ (n < m) → ⊥
    apart k n d before is (inl e) = d (same_Some k p (sym is ∙ (ap (λ (o : ℕ). slice_get touched o) e ∙ at)))
    apart k n d before is (inr l) = before n l is

-- removing a column's mark removes it and no other
pub unmark-here : (marks : List Bool) (p : ℕ) → p < length marks → UnmarksAt marks (slice_set marks p false) p
unmark-here marks p below = record { length_is = length-set marks p false; each = λ k mark. go k mark (same_or_other k p) }
  where
    go : (k : ℕ) → slice_get (slice_set marks p false) k ≡ Some true → (k ≡ p) ⊎ (k ≢ p) → (slice_get marks k ≡ Some true) × (k ≢ p)
    go k mark (inl e) =
        let off = slice_get-set_same marks p false below in
        let wrong : Some false ≡ Some true = sym off ∙ (ap (λ (n : ℕ). slice_get (slice_set marks p false) n) (sym e) ∙ mark) in
        cc
    go k mark (inr d) = (sym (slice_get-set_other marks p k false d) ∙ mark, d)

-- there is no mark to remove outside the list
pub unmark-outside : (marks : List Bool) (p : ℕ) → length marks ≤ p → UnmarksAt marks marks p
unmark-outside marks p above = record { length_is = refl; each = λ k mark. (mark, λ e. let within = slice_get_within marks k true mark in absurd (omega (arith, within, above, e))) }

-- once the marks of all columns found are removed, no mark is left
pub unmarked-blank : (columns : List Column) (r : ℕ) (listed : List ℕ) (m : ℕ) (marks after : List Bool) (touched : List ℕ) → AreMarked columns r listed m marks touched
    → Unmarks marks after touched (length touched) → AreBlank after (length columns)
unmarked-blank columns r listed m marks after touched are un = record {
  length_is = un.length_is ∙ are.length_is;
  each = λ k mark.
      let parts = un.each k mark in
      let named = are.marked k parts.0 in
      parts.1 named.at (slice_get_within touched named.at k named.is) named.is;
}

-- before any column has been processed, none is found
pub marked-none : (columns : List Column) (r : ℕ) (listed : List ℕ) (marks : List Bool) (touched : List ℕ) → AreBlank marks (length columns) → touched ≡ []
    → AreMarked columns r listed 0 marks touched
marked-none columns r listed marks touched blank f = record {
  length_is = blank.length_is;
  marked = λ j mark. absurd (blank.each j mark);
  own = λ k j is. absurd (nothing k j is);
  there = λ k j is. absurd (nothing k j is);
  once = λ k l j is at. absurd (nothing k j is);
  all = λ n j x l is at d. absurd (omega arith);
}
  where
    nothing : (k j : ℕ) → slice_get touched k ≡ Some j → ⊥
    nothing k j is =
        let l = slice_get_within touched k j is in
        let none = ap (λ (xs : List ℕ). length xs) f in
        omega (arith, l, none)

-- a column that was found already, or has no number in the row, changes nothing
pub marked-same : (columns : List Column) (r : ℕ) (listed : List ℕ) (m : ℕ) (marks : List Bool) (touched : List ℕ) (p : ℕ) → AreMarked columns r listed m marks touched
    → slice_get listed m ≡ Some p → ((x : Column) → slice_get columns p ≡ Some x → numerator x r ≢ pos 0 → Contains touched p)
    → AreMarked columns r listed (m + 1) marks touched
marked-same columns r listed m marks touched p are at found = record {
  length_is = are.length_is;
  marked = are.marked;
  own = are.own;
  there = are.there;
  once = are.once;
  all = λ n j x l is here d. go n j x is here d (last_or_before m n (omega arith));
}
  where
    go : (n j : ℕ) (x : Column) → slice_get listed n ≡ Some j → slice_get columns j ≡ Some x → numerator x r ≢ pos 0 → (n ≡ m) ⊎ (n < m) → Contains touched j
    go n j x is here d (inl e) =
        let same : p ≡ j = same_Some p j (sym at ∙ (ap (λ (o : ℕ). slice_get listed o) (sym e) ∙ is)) in
        subst (λ (o : ℕ). Contains touched o) same (found x (ap (λ (o : ℕ). slice_get columns o) same ∙ here) d)
    go n j x is here d (inr l) = are.all n j x l is here d

-- a column that is found is appended and marked
pub marked-more : (columns : List Column) (r : ℕ) (listed : List ℕ) (m : ℕ) (marks : List Bool) (touched : List ℕ) (p : ℕ) (y : Column) → AreMarked columns r listed m marks touched
    → slice_get listed m ≡ Some p → p < length marks → slice_get marks p ≢ Some true → slice_get columns p ≡ Some y → numerator y r ≢ pos 0
    → AreMarked columns r listed (m + 1) (slice_set marks p true) (touched ++ (p ∷ []))
marked-more columns r listed m marks touched p y are at below unmarked is_y number = record {
  length_is = length-set marks p true ∙ are.length_is;
  marked = λ j mark. marked j mark (same_or_other j p);
  own = λ k j is. own k j is (place k j is);
  there = λ k j is. there k j is (place k j is);
  once = λ k l j is also. once k l j is also (place k j is) (place l j also);
  all = λ n j x l is here d. all n j x is here d (last_or_before m n (omega arith));
}
  where
    here_mark : slice_get (slice_set marks p true) p ≡ Some true
    here_mark = slice_get-set_same marks p true below

    place : (k j : ℕ) → slice_get (touched ++ (p ∷ [])) k ≡ Some j → (k ≡ length touched) ⊎ (k < length touched)
    place k j is =
        let within = slice_get_within (touched ++ (p ∷ [])) k j is in
        let size = length-append {A = ℕ} touched (p ∷ []) in
        last_or_before (length touched) k (omega (arith, within, size))

    last : (k j : ℕ) → slice_get (touched ++ (p ∷ [])) k ≡ Some j → k ≡ length touched → p ≡ j
    last k j is e = same_Some p j (sym (slice_get-last touched p) ∙ (ap (λ (o : ℕ). slice_get (touched ++ (p ∷ [])) o) (sym e) ∙ is))

    before : (k j : ℕ) → slice_get (touched ++ (p ∷ [])) k ≡ Some j → k < length touched → slice_get touched k ≡ Some j
    before k j is l = sym (slice_get-before touched p k l) ∙ is

    other : (k j : ℕ) → slice_get touched k ≡ Some j → p ≡ j → ⊥
    other k j is e = unmarked (ap (λ (o : ℕ). slice_get marks o) e ∙ are.own k j is)

    marked : (j : ℕ) → slice_get (slice_set marks p true) j ≡ Some true → (j ≡ p) ⊎ (j ≢ p) → Contains (touched ++ (p ∷ [])) j
    marked j mark (inl e) = subst (λ (o : ℕ). Contains (touched ++ (p ∷ [])) o) (sym e) (contains-last touched p)
    marked j mark (inr d) = contains-before touched p j (are.marked j (sym (slice_get-set_other marks p j true d) ∙ mark))

    own : (k j : ℕ) → slice_get (touched ++ (p ∷ [])) k ≡ Some j → (k ≡ length touched) ⊎ (k < length touched) → slice_get (slice_set marks p true) j ≡ Some true
    own k j is (inl e) = ap (λ (o : ℕ). slice_get (slice_set marks p true) o) (sym (last k j is e)) ∙ here_mark
    own k j is (inr l) = slice_get-set_other marks p j true (λ e. other k j (before k j is l) (sym e)) ∙ are.own k j (before k j is l)

    there : (k j : ℕ) → slice_get (touched ++ (p ∷ [])) k ≡ Some j → (k ≡ length touched) ⊎ (k < length touched)
        → (x : Column) × (slice_get columns j ≡ Some x) × (numerator x r ≢ pos 0)
    there k j is (inl e) = (y, ap (λ (o : ℕ). slice_get columns o) (sym (last k j is e)) ∙ is_y, number)
    there k j is (inr l) = are.there k j (before k j is l)

    once : (k l j : ℕ) → slice_get (touched ++ (p ∷ [])) k ≡ Some j → slice_get (touched ++ (p ∷ [])) l ≡ Some j
        → (k ≡ length touched) ⊎ (k < length touched) → (l ≡ length touched) ⊎ (l < length touched) → k ≡ l
    once k l j is also (inl e) (inl f) = e ∙ sym f
    once k l j is also (inl e) (inr g) = absurd (other l j (before l j also g) (last k j is e))
    once k l j is also (inr g) (inl f) = absurd (other k j (before k j is g) (last l j also f))
    once k l j is also (inr g) (inr h) = are.once k l j (before k j is g) (before l j also h)

    all : (n j : ℕ) (x : Column) → slice_get listed n ≡ Some j → slice_get columns j ≡ Some x → numerator x r ≢ pos 0 → (n ≡ m) ⊎ (n < m) → Contains (touched ++ (p ∷ [])) j
    all n j x is here d (inl e) =
        let same : p ≡ j = same_Some p j (sym at ∙ (ap (λ (o : ℕ). slice_get listed o) (sym e) ∙ is)) in
        subst (λ (o : ℕ). Contains (touched ++ (p ∷ [])) o) same (contains-last touched p)
    all n j x is here d (inr l) = contains-before touched p j (are.all n j x l is here d)

-- once all listed columns have been processed, the ones found are those with a number in the row
pub marked-all : (columns : List Column) (r : ℕ) (listed : List ℕ) (marks : List Bool) (touched : List ℕ) → AreMarked columns r listed (length listed) marks touched
    → Covers columns r listed → AreTouched columns r touched
marked-all columns r listed marks touched are covers = record {
  there = are.there;
  once = are.once;
  all = λ j x is d.
      let named = covers.each j x is d in
      are.all named.at j x (slice_get_within listed named.at j named.is) named.is is d;
}

-- if a number is computed from 0 less a product that is 0, it is 0
stays : (n g x u s o : ℤ) → pos 0 <ℤ g → n *ℤ g ≡ x *ℤ u -ℤ s *ℤ o → x ≡ pos 0 → s *ℤ o ≡ pos 0 → n ≡ pos 0
stays n g x u s o positive made e f =
    let none = zero-mul_ℤ x u e in
    let nothing : n *ℤ g ≡ pos 0 = omega (arith, ints, made, none, f) in
    mul-cancel_ℤ g n (pos 0) positive (mul_comm_ℤ g n ∙ (nothing ∙ sym (mul-zero_ℤ g (pos 0) refl)))

-- if a column has 0 in the pivot's row, nothing is subtracted from it
nothing-over : (w o x u : ℤ) → pos 0 <ℤ w → w *ℤ o ≡ x *ℤ u → x ≡ pos 0 → o ≡ pos 0
nothing-over w o x u positive ratio e = mul-cancel_ℤ w o (pos 0) positive (ratio ∙ (zero-mul_ℤ x u e ∙ sym (mul-zero_ℤ w (pos 0) refl)))

-- after a pivot, with the list of its row rebuilt, the lists still name each column with a number
pub pivoted-listed : (xs ys : List Column) (mid : List RowColumns) (n m r : ℕ) (w : ℤ) (shifted : List Cell) (touched : List ℕ) (list : RowColumns) → AreListed xs mid n m → length xs ≡ m
    → pos 0 <ℤ w → r < length mid → list.columns.items ≡ touched → AreTouched xs r touched
    → ((j : ℕ) (a b : Column) → slice_get xs j ≡ Some a → slice_get ys j ≡ Some b → IsCleared a b r w shifted)
    → ((i j : ℕ) → i < n → i ≢ r → number_of shifted i ≢ pos 0 → Contains touched j → Names mid i j)
    → AreListed ys (slice_set mid r list) n m
pivoted-listed xs ys mid n m r w shifted touched list are size positive below own touch cleared put = record {
  each = λ i j b l lj is d.
      let a = slice_get-there xs j (omega arith) in
      row i j a.0 b l lj a.1 d (cleared j a.0 b a.1 is) (same_or_other i r) (zero_or_other (numerator a.0 r));
}
  where
    go : (i j : ℕ) (a b : Column) → i < n → i ≢ r → j < m → slice_get xs j ≡ Some a → numerator b i ≢ pos 0 → IsCleared a b r w shifted
        → (numerator a i ≡ pos 0) ⊎ (numerator a i ≢ pos 0) → (number_of shifted i ≡ pos 0) ⊎ (number_of shifted i ≢ pos 0) → (numerator a r ≡ pos 0) ⊎ (numerator a r ≢ pos 0)
        → Names mid i j
    go i j a b l other lj is d h (inr f) s z = are.each i j a l lj is f
    go i j a b l other lj is d h (inl e) (inl f) z =
        absurd (d (stays (numerator b i) h.divisor (numerator a i) h.under (number_of shifted i) h.over h.positive (h.numbers i) e (zero-mul_ℤ (number_of shifted i) h.over f)))
    go i j a b l other lj is d h (inl e) (inr f) (inl z) =
        absurd (d (stays (numerator b i) h.divisor (numerator a i) h.under (number_of shifted i) h.over h.positive (h.numbers i) e
        (mul-zero_ℤ (number_of shifted i) h.over (nothing-over w h.over (numerator a r) h.under positive h.ratio z))))
    go i j a b l other lj is d h (inl e) (inr f) (inr z) =
        put i j l other f (touch.all j a is z)

    row : (i j : ℕ) (a b : Column) → i < n → j < m → slice_get xs j ≡ Some a → numerator b i ≢ pos 0 → IsCleared a b r w shifted
        → (i ≡ r) ⊎ (i ≢ r) → (numerator a r ≡ pos 0) ⊎ (numerator a r ≢ pos 0) → Names (slice_set mid r list) i j
    row i j a b l lj is d h (inl e) (inl z) =
        absurd (d (stays (numerator b i) h.divisor (numerator a i) h.under (number_of shifted i) h.over h.positive (h.numbers i) (ap (λ (k : ℕ). numerator a k) e ∙ z)
        (mul-zero_ℤ (number_of shifted i) h.over (nothing-over w h.over (numerator a r) h.under positive h.ratio z))))
    row i j a b l lj is d h (inl e) (inr z) = record {
      list = list;
      of = ap (λ (k : ℕ). slice_get (slice_set mid r list) k) e ∙ slice_get-set_same mid r list below;
      has = subst (λ (ns : List ℕ). Contains ns j) (sym own) (touch.all j a is z);
    }
    row i j a b l lj is d h (inr other) z =
        let named = go i j a b l other lj is d h (zero_or_other (numerator a i)) (zero_or_other (number_of shifted i)) z in
        record { list = named.list; of = slice_get-set_other mid r i list other ∙ named.of; has = named.has }

-- lists for equal numbers of rows and columns
pub listed-sizes : (xs : List Column) (lists : List RowColumns) (n m n' m' : ℕ) → AreListed xs lists n m → n' ≡ n → m' ≡ m → AreListed xs lists n' m'
listed-sizes xs lists n m n' m' are e f = record { each = λ i j x l lj is d. are.each i j x (omega arith) (omega arith) is d }

-- a column that the lists name for a row is in the row's list
pub named-contained : (lists : List RowColumns) (i j : ℕ) (l : RowColumns) (listed : List ℕ) → Names lists i j → slice_get lists i ≡ Some l → listed ≡ l.columns.items → Contains listed j
named-contained lists i j l listed named is e =
    subst (λ (ns : List ℕ). Contains ns j) (sym e)
    (subst (λ (m : RowColumns). Contains m.columns.items j) (same_Some named.list l (sym named.of ∙ is)) named.has)

-- replacing a row's list by one that names at least the same keeps the lists complete
pub listed-list : (columns : List Column) (lists : List RowColumns) (n m r : ℕ) (l s : RowColumns) → AreListed columns lists n m → slice_get lists r ≡ Some l
    → HasAll l.columns.items s.columns.items → AreListed columns (slice_set lists r s) n m
listed-list columns lists n m r l s are is all = record { each = λ i j x a b at d. names-kept lists r l s i j is all (are.each i j x a b at d) }
