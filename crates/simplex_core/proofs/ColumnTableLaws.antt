-- What holds of a tableau's numbers if columns show it.
use Rattle.std.proofs.Common.{◌≡◌, ℕ, ◌+◌, ◌<◌, ◌≤◌, ◌^◌, ap, arith, refl, sym, ◌∙◌, subst, ◌⊎◌, inl, inr, ◌≢◌, List, [], ◌∷◌, Some, false, length, get_or, of_z}
use Rattle.std.specs.Prelude.{ℤ, pos, ◌-ℤ◌, ◌*ℤ◌, ◌<ℤ◌, ◌≤ℤ◌, int_lt, nat_eq, unsigned_abs, slice_get, slice_set, FitsSigned}
use Rattle.std.specs.Int.{w64}
use Rattle.std.proofs.lemmas.Int.{ints}
use Rattle.std.proofs.lemmas.Bool.{eqb-true, eq-eqb, cases_lt}
use Rattle.std.proofs.lemmas.Option.{slice_get_read, slice_get_within, same_Some}
use Rattle.int_laws.specs.NormalForm.{is_zero}
use Rattle.int_laws.specs.Polynomial.{variable, constant, ◌⊖◌, ◌⊗◌}
use Rattle.int_laws.proofs.Identities.{identity_by_two}
use Rattle.int_laws.proofs.OrderLaws.{mul-cancel_ℤ, mul-positive_ℤ, mul-lt-mul_ℤ, lt-of-mul_ℤ}
use Rattle.int_laws.proofs.RingLaws.{mul_comm_ℤ}
use Rattle.sparse_columns.specs.declared.cell.Cell.{Cell}
use Rattle.sparse_columns.specs.declared.column.Column.{Column}
use Rattle.sparse_columns.specs.Numbers.{number_of}
use Rattle.sparse_columns.specs.Columns.{numerator, IsCleared}
use Rattle.sparse_columns.proofs.Lookups.{number_of-small}
use Rattle.linear_forms.specs.LinearProgram.{LinearProgram}
use Rattle.simplex_core.specs.Tableau.{Tableau, unknowns, cost_row}
use Rattle.simplex_core.specs.Bland.{may_enter}
use Rattle.simplex_core.specs.Search.{every}
use Rattle.simplex_core.specs.Positions.{InTable}
use Rattle.simplex_core.specs.Outcome.{IsSmallRatio, IsInRange}
use Rattle.simplex_core.specs.declared.column_table.ColumnTable.{ColumnTable}
use Rattle.simplex_core.specs.ColumnTables.{ShowsColumns, IsCellOf, AreNotNegative, ClearsTouched, ClearsColumn, ChangesBeside, ListsInRow, ListsTouched}
use Rattle.simplex_core.proofs.FractionSizes.{lowest-least}
use Rattle.simplex_core.proofs.Positions.{slice_get-there, slice_get-set_same, slice_get-set_other}
use Rattle.simplex_core.proofs.Invariant.{same_or_other}
use Rattle.simplex_core.specs.ColumnListing.{AreTouched, Contains, Names}
use Rattle.simplex_core.proofs.ColumnListings.{zero_or_other}
use Rattle.simplex_core.proofs.Searches.{last_or_before, no_and}
use Rattle.simplex_core.proofs.Choices.{int_lt-true, lt-int_lt, le-int_lt}
use Rattle.simplex_core.proofs.Signs.{same_test, products-show, negative-shows, is_zero-true}

-- a column of the program that is read from the table is the one stored there
pub column-read : (a : ColumnTable) (j : ℕ) (x : Column) → j < a.width → x ≡ get_or a.columns.items j x → slice_get a.columns.items j ≡ Some x
column-read a j x l e = slice_get_read a.columns.items (length a.columns.items) j x refl (let u = a.unknowns in omega arith) e

-- there is a column for each unknown of the program
pub column-there : (a : ColumnTable) (j : ℕ) → j < a.width → (x : Column) × (slice_get a.columns.items j ≡ Some x)
column-there a j l = slice_get-there a.columns.items j (let u = a.unknowns in omega arith)

-- a cell's number shows the entry in its row
pub shown-cell : (p : LinearProgram) (a : ColumnTable) (t : Tableau) (j : ℕ) (e : Cell) (x : Column) → ShowsColumns p a t → IsCellOf a j e → slice_get a.columns.items j ≡ Some x
    → e.number *ℤ t.scale e.row ≡ t.entry e.row j *ℤ x.den
shown-cell p a t j e x shows own is =
    let rows = shows.rows in
    let row = own.row in
    ap (λ (z : ℤ). z *ℤ t.scale e.row) (sym (own.number x is)) ∙ shows.numbers e.row j x (omega arith) is

-- the code's test for 0 on numbers of 64 bits
pub zero-test_small : (z : ℤ) → FitsSigned w64 z → nat_eq (of_z w64 z) 0 ≡ is_zero z
zero-test_small z fits =
    same_test _ _
    (λ h. ap is_zero (none (eqb-true (of_z w64 z) 0 h)))
    (λ h. eq-eqb (of_z w64 z) 0 (ap (of_z w64) (is_zero-true z h)))
  where
    none : of_z w64 z ≡ 0 → z ≡ pos 0
    none e = omega (arith, ints)

-- multiplying two numbers by one above 0 doesn't change their order
order-scaled : (v w k : ℤ) → pos 0 <ℤ k → int_lt v w ≡ int_lt (v *ℤ k) (w *ℤ k)
order-scaled v w k positive =
    same_test _ _
    (λ h. lt-int_lt _ _ (both _ _ _ _ (mul_comm_ℤ k v) (mul_comm_ℤ k w) (mul-lt-mul_ℤ k v w positive (int_lt-true v w h))))
    (λ h. lt-int_lt v w (lt-of-mul_ℤ k v w positive (both _ _ _ _ (mul_comm_ℤ v k) (mul_comm_ℤ w k) (int_lt-true _ _ h))))
  where
    both : (v w v' w' : ℤ) → v ≡ v' → w ≡ w' → v <ℤ w → v' <ℤ w'
    both v w v' w' e f l = omega (arith, ints)

-- the order of the products of two columns' numbers is that of the products of the entries that they show
pub quotients-show : (a b c d u v s r x y z w : ℤ) → pos 0 <ℤ u → pos 0 <ℤ v → pos 0 <ℤ s → pos 0 <ℤ r
    → a *ℤ s ≡ x *ℤ u → b *ℤ r ≡ y *ℤ v → c *ℤ r ≡ z *ℤ u → d *ℤ s ≡ w *ℤ v → int_lt (a *ℤ b) (c *ℤ d) ≡ int_lt (x *ℤ y) (z *ℤ w)
quotients-show a b c d u v s r x y z w pu pv ps pr ea eb ec ed =
    order-scaled (a *ℤ b) (c *ℤ d) (u *ℤ v) (mul-positive_ℤ u v pu pv)
    ∙ products-show a b c d u v u v s r x y z w pu pv pu pv ps pr ea eb ec ed

-- a fraction whose numerator and denominator are below 2^31 is small in lowest terms
small_ratio : (n d z s : ℤ) → pos 0 <ℤ d → pos 0 <ℤ s → n *ℤ s ≡ z *ℤ d → unsigned_abs n < 2 ^ 31 → unsigned_abs d < 2 ^ 31 → IsSmallRatio z s
small_ratio n d z s pd ps shows small_n small_d = record {
  each = λ n' d' pd' lowest same.
      let least = lowest-least n' d' n d lowest (λ e. let zero : d ≡ pos 0 = e in omega (arith, ints)) (crossed n' d' same) in
      (omega (arith, least.0, small_n), omega (arith, least.1, small_d));
}
  where
    crossed : (n' d' : ℤ) → n' *ℤ s ≡ z *ℤ d' → n' *ℤ d ≡ n *ℤ d'
    crossed n' d' same =
        mul-cancel_ℤ s (n' *ℤ d) (n *ℤ d') ps
        (identity_by_two (n' ∷ d' ∷ s ∷ z ∷ n ∷ d ∷ []) (variable 2 ⊗ (variable 0 ⊗ variable 5)) (variable 2 ⊗ (variable 4 ⊗ variable 1))
        (variable 5) (variable 0 ⊗ variable 2) (variable 3 ⊗ variable 1)
        (constant (pos 0) ⊖ variable 1) (variable 4 ⊗ variable 2) (variable 3 ⊗ variable 5) same shows refl)

-- the number in each row of a column is below 2^31
numerator-small : (x : Column) (i : ℕ) → unsigned_abs (numerator x i) < 2 ^ 31
numerator-small x i = number_of-small x.cells.items.items i x.cells.ascending

-- a tableau that columns show is in range
pub columns-in_range : (p : LinearProgram) (a : ColumnTable) (t : Tableau) → ShowsColumns p a t → IsInRange p t
columns-in_range p a t shows = record { each = λ i j inside. go i j inside (last_or_before (unknowns p) j (let l = inside.column in omega arith)) }
  where
    equation_row : (i j : ℕ) → InTable p.rows p.columns i j → j ≡ unknowns p → (i < p.rows) ⊎ (p.rows ≤ i) → i < p.rows
    equation_row i j inside e (inl l) = l
    equation_row i j inside e (inr l) = let cost = inside.cost l in absurd (omega (arith, e, cost))

    go : (i j : ℕ) → InTable p.rows p.columns i j → (j ≡ unknowns p) ⊎ (j < unknowns p) → IsSmallRatio (t.entry i j) (t.scale i)
    go i j inside (inl e) =
        let below = equation_row i j inside e (cases_lt i p.rows) in
        subst (λ (k : ℕ). IsSmallRatio (t.entry i k) (t.scale i)) (sym e)
        (small_ratio (numerator a.right i) a.right.den (t.entry i (unknowns p)) (t.scale i) a.right.positive (shows.positive i inside.row) (shows.right i below) (numerator-small a.right i) a.right.small)
    go i j inside (inr l) =
        let there = slice_get-there a.columns.items j (let u = a.unknowns in let r = shows.rows in let w = shows.columns in omega arith) in
        small_ratio (numerator there.0 i) there.0.den (t.entry i j) (t.scale i) there.0.positive (shows.positive i inside.row) (shows.numbers i j there.0 inside.row there.1) (numerator-small there.0 i) there.0.small

-- a column with 0 in a row is unchanged when it is cleared there
pub cleared-none : (x : Column) (r : ℕ) (pivot : ℤ) (shifted : List Cell) → numerator x r ≡ pos 0 → IsCleared x x r pivot shifted
cleared-none x r pivot shifted zero = record {
  over = pos 0;
  under = pos 1;
  divisor = pos 1;
  under_positive = omega (arith, ints);
  positive = omega (arith, ints);
  ratio = nothing pivot (numerator x r) zero;
  numbers = λ i. same (numerator x i) (number_of shifted i);
  den = refl;
}
  where
    nothing : (v w : ℤ) → w ≡ pos 0 → v *ℤ pos 0 ≡ w *ℤ pos 1
    nothing v w e = omega (arith, ints)

    same : (v w : ℤ) → v *ℤ pos 1 ≡ v *ℤ pos 1 -ℤ w *ℤ pos 0
    same v w = omega (arith, ints)

-- after one more column is cleared
pub clears-more : (a b d : ColumnTable) (r : ℕ) (pivot : ℤ) (shifted : List Cell) (touched : List ℕ) (m p : ℕ) → ClearsTouched a b r pivot shifted touched m
    → ClearsColumn b d p r pivot shifted → AreTouched a.columns.items r touched → slice_get touched m ≡ Some p → ClearsTouched a d r pivot shifted touched (m + 1)
clears-more a b d r pivot shifted touched m p all one own at = record {
  rows = one.rows ∙ all.rows;
  columns = one.columns ∙ all.columns;
  basis = one.basis ∙ all.basis;
  right = one.right ∙ all.right;
  cleared = λ n j x y l is is_x is_y. go n j x y is is_x is_y (last_or_before m n (omega arith));
  others = λ j apart. one.others j (λ e. apart m (omega arith) (at ∙ ap Some (sym e))) ∙ all.others j (λ n l. apart n (omega arith));
  lists = one.lists ∙ all.lists;
  marks = one.marks ∙ all.marks;
  first = λ h. one.first (all.first h);
}
  where
    unseen : (n : ℕ) → n < m → slice_get touched n ≡ Some p → ⊥
    unseen n l is = let e = own.once n m p is at in omega (arith, l, e)

    before : slice_get b.columns.items p ≡ slice_get a.columns.items p
    before = all.others p unseen

    same : (n j : ℕ) → slice_get touched n ≡ Some j → n ≡ m → p ≡ j
    same n j is e = same_Some p j (sym at ∙ (ap (λ (o : ℕ). slice_get touched o) (sym e) ∙ is))

    go : (n j : ℕ) (x y : Column) → slice_get touched n ≡ Some j → slice_get a.columns.items j ≡ Some x → slice_get d.columns.items j ≡ Some y → (n ≡ m) ⊎ (n < m)
        → IsCleared x y r pivot shifted
    go n j x y is is_x is_y (inl e) =
        one.cleared x y (before ∙ (ap (λ (o : ℕ). slice_get a.columns.items o) (same n j is e) ∙ is_x)) (ap (λ (o : ℕ). slice_get d.columns.items o) (same n j is e) ∙ is_y)
    go n j x y is is_x is_y (inr l) = all.cleared n j x y l is is_x (sym (one.others j (λ e. unseen n l (is ∙ ap Some e))) ∙ is_y)

-- if the columns with a number in the row are cleared, all columns are
pub clears-all : (a b : ColumnTable) (r : ℕ) (pivot : ℤ) (shifted : List Cell) (touched : List ℕ) → ClearsTouched a b r pivot shifted touched (length touched)
    → AreTouched a.columns.items r touched → (j : ℕ) (x y : Column) → slice_get a.columns.items j ≡ Some x → slice_get b.columns.items j ≡ Some y → IsCleared x y r pivot shifted
clears-all a b r pivot shifted touched all own j x y is_x is_y = go (zero_or_other (numerator x r))
  where
    go : (numerator x r ≡ pos 0) ⊎ (numerator x r ≢ pos 0) → IsCleared x y r pivot shifted
    go (inl e) =
        let same : x ≡ y = same_Some x y (sym is_x ∙ (sym (all.others j (λ n l is.
        let there = own.there n j is in
        there.2 (ap (λ (z : Column). numerator z r) (same_Some there.0 x (sym there.1 ∙ is_x)) ∙ e))) ∙ is_y)) in
        subst (λ (z : Column). IsCleared x z r pivot shifted) same (cleared-none x r pivot shifted e)
    go (inr d) =
        let named = own.all j x is_x d in
        all.cleared named.at j x y (slice_get_within touched named.at j named.is) named.is is_x is_y

-- two changes of what is stored besides the numbers are such a change together
pub changes-both : (a b d : ColumnTable) → ChangesBeside a b → ChangesBeside b d → ChangesBeside a d
changes-both a b d one two = record {
  rows = two.rows ∙ one.rows;
  columns = two.columns ∙ one.columns;
  basis = two.basis ∙ one.basis;
  right = two.right ∙ one.right;
  kept = two.kept ∙ one.kept;
  beside = two.beside;
}

-- after these columns are appended to the list of one more cell's row
pub lists-more : (a b d : ColumnTable) (r : ℕ) (cells : List Cell) (touched : List ℕ) (m : ℕ) (c : Cell) → ListsTouched a b r cells touched m → ListsInRow b d c.row touched
    → slice_get cells m ≡ Some c → ListsTouched a d r cells touched (m + 1)
lists-more a b d r cells touched m c all one at = record {
  changes = changes-both a b d all.changes one.changes;
  put = λ k j e l is apart named. go k j e is apart named (last_or_before m k (omega arith)) (same_or_other e.row c.row);
}
  where
    go : (k j : ℕ) (e : Cell) → slice_get cells k ≡ Some e → e.row ≢ r → Contains touched j → (k ≡ m) ⊎ (k < m) → (e.row ≡ c.row) ⊎ (e.row ≢ c.row) → Names d.lists.items e.row j
    go k j e is apart named place (inl same) = subst (λ (i : ℕ). Names d.lists.items i j) (sym same) (one.put j named)
    go k j e is apart named (inl last) (inr other) =
        let cell : c ≡ e = same_Some c e (sym at ∙ (ap (λ (i : ℕ). slice_get cells i) (sym last) ∙ is)) in
        absurd (other (ap (λ (x : Cell). x.row) (sym cell)))
    go k j e is apart named (inr before) (inr other) = one.others e.row j other (all.put k j e before is apart named)

-- a cell in the excluded row changes nothing
pub lists-same : (a b : ColumnTable) (r : ℕ) (cells : List Cell) (touched : List ℕ) (m : ℕ) (c : Cell) → ListsTouched a b r cells touched m → slice_get cells m ≡ Some c
    → c.row ≡ r → ListsTouched a b r cells touched (m + 1)
lists-same a b r cells touched m c all at own = record {
  changes = all.changes;
  put = λ k j e l is apart named. go k j e is apart named (last_or_before m k (omega arith));
}
  where
    go : (k j : ℕ) (e : Cell) → slice_get cells k ≡ Some e → e.row ≢ r → Contains touched j → (k ≡ m) ⊎ (k < m) → Names b.lists.items e.row j
    go k j e is apart named (inl last) =
        let cell : c ≡ e = same_Some c e (sym at ∙ (ap (λ (i : ℕ). slice_get cells i) (sym last) ∙ is)) in
        absurd (apart (ap (λ (x : Cell). x.row) (sym cell) ∙ own))
    go k j e is apart named (inr before) = all.put k j e before is apart named

-- no column below index 0 has a number below 0
pub not_negative-none : (xs : List Column) (i : ℕ) → AreNotNegative xs i 0
not_negative-none xs i = record { each = λ j x l is. absurd (omega (arith, l)) }

-- if the first n columns have no number below 0 in a row, fewer columns have none
pub not_negative-less : (xs : List Column) (i n m : ℕ) → AreNotNegative xs i n → m ≤ n → AreNotNegative xs i m
not_negative-less xs i n m are l = record { each = λ j x k is. are.each j x (omega arith) is }

-- equal columns have no number below 0, either
pub not_negative-sizes : (xs ys : List Column) (i n k m : ℕ) → AreNotNegative xs i n → ys ≡ xs → k ≡ i → m ≡ n → AreNotNegative ys k m
not_negative-sizes xs ys i n k m are e f g = record {
  each = λ j x l is. subst (λ (r : ℕ). pos 0 ≤ℤ numerator x r) (sym f) (are.each j x (omega arith) (ap (λ (zs : List Column). slice_get zs j) (sym e) ∙ is));
}

-- after one more column without a number below 0
pub not_negative-more : (xs : List Column) (i n : ℕ) (y : Column) → AreNotNegative xs i n → slice_get xs n ≡ Some y → pos 0 ≤ℤ numerator y i → AreNotNegative xs i (n + 1)
not_negative-more xs i n y are at above = record { each = λ j x l is. go j x is (last_or_before n j (omega arith)) }
  where
    go : (j : ℕ) (x : Column) → slice_get xs j ≡ Some x → (j ≡ n) ⊎ (j < n) → pos 0 ≤ℤ numerator x i
    go j x is (inl e) =
        subst (λ (z : Column). pos 0 ≤ℤ numerator z i) (same_Some y x (sym at ∙ (ap (λ (k : ℕ). slice_get xs k) (sym e) ∙ is))) above
    go j x is (inr l) = are.each j x l is

-- replacing a column keeps this property, if the new one has no number below 0 or is not among the first
pub not_negative-set : (xs : List Column) (i n m p : ℕ) (y : Column) → AreNotNegative xs i n → m ≤ n → p < length xs → (p < m → pos 0 ≤ℤ numerator y i)
    → AreNotNegative (slice_set xs p y) i m
not_negative-set xs i n m p y are l below own = record { each = λ j x k is. go j x k is (same_or_other j p) }
  where
    go : (j : ℕ) (x : Column) → j < m → slice_get (slice_set xs p y) j ≡ Some x → (j ≡ p) ⊎ (j ≢ p) → pos 0 ≤ℤ numerator x i
    go j x k is (inl e) =
        subst (λ (z : Column). pos 0 ≤ℤ numerator z i)
        (same_Some y x (sym (slice_get-set_same xs p y below) ∙ (ap (λ (o : ℕ). slice_get (slice_set xs p y) o) (sym e) ∙ is))) (own (omega arith))
    go j x k is (inr d) = are.each j x (omega arith) (sym (slice_get-set_other xs p j y d) ∙ is)

-- no column before `first` may enter by the first cost row
pub none-enters : (p : LinearProgram) (a : ColumnTable) (t : Tableau) (j : ℕ) → ShowsColumns p a t → j < a.first → may_enter p t 0 j ≡ false
none-enters p a t j shows l =
    let rows = shows.rows in
    let within = a.within in
    let there = column-there a j (omega arith) in
    let x = there.0 in
    let row : a.rows ≡ cost_row p 0 = omega arith in
    let above = shows.beside.first.each j x l there.1 in
    let sign = negative-shows (numerator x (cost_row p 0)) x.den (t.entry (cost_row p 0) j) (t.scale (cost_row p 0)) x.positive (shows.positive (cost_row p 0) (omega arith))
    (shows.numbers (cost_row p 0) j x (omega arith) there.1) in
    no_and _ (every 0 (λ k. is_zero (t.entry (cost_row p k) j)))
    (sym sign ∙ le-int_lt (numerator x (cost_row p 0)) (pos 0) (subst (λ (i : ℕ). pos 0 ≤ℤ numerator x i) row above))
