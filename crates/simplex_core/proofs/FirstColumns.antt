-- The columns built from a problem show the first tableau.
use Rattle.std.proofs.Common.{◌≡◌, ◌≢◌, ℕ, suc, ◌+◌, ◌-◌, ◌<◌, ◌≤◌, ap, arith, refl, sym, ◌∙◌, ◌⊎◌, inl, inr, List, [], ◌∷◌, Some, Bool}
use Rattle.std.specs.Prelude.{ℤ, pos, ◌+ℤ◌, ◌-ℤ◌, ◌*ℤ◌, slice_get, slice_index, slice_index_or, nat_eq, nat_lt, if◌then◌else◌}
use Rattle.std.proofs.lemmas.Int.{ints}
use Rattle.std.proofs.lemmas.Bool.{cases_lt}
use Rattle.std.proofs.lemmas.Option.{slice_get_within}
use Rattle.int_laws.specs.Sums.{sum_to}
use Rattle.int_laws.proofs.SumLaws.{sum_to-same}
use Rattle.int_laws.proofs.RingLaws.{mul-zero_ℤ}
use Rattle.sparse_columns.specs.Numbers.{alone}
use Rattle.sparse_columns.specs.Columns.{numerator}
use Rattle.sparse_columns.proofs.Lookups.{alone-here, alone-other}
use Rattle.linear_forms.specs.LinearProgram.{LinearProgram}
use Rattle.simplex_core.specs.declared.problem.Entry.{Entry}
use Rattle.simplex_core.specs.declared.problem.Problem.{Problem}
use Rattle.simplex_core.specs.declared.column_table.ColumnTable.{ColumnTable}
use Rattle.simplex_core.specs.Tableau.{sign_of, first_tableau, unknowns}
use Rattle.simplex_core.specs.Problem.{entry_value, program_of, IsProper}
use Rattle.simplex_core.specs.Positions.{InTable}
use Rattle.simplex_core.specs.Building.{signed_entries, with_equations, with_costs, cost_number}
use Rattle.simplex_core.specs.ColumnTables.{ShowsColumns, IsKept}
use Rattle.simplex_core.specs.ColumnBuilding.{AreColumns, HasSides, entries_at, with_units, with_cost_columns, costs_at}
use Rattle.simplex_core.proofs.Invariant.{same_or_other}
use Rattle.simplex_core.proofs.Regions.{choose-below, choose-above, choose-same, choose-other}
use Rattle.simplex_core.proofs.First.{first-is_tableau, first-scale, first-basis}
use Rattle.simplex_core.proofs.ProgramFields.{program-columns, program-rows}
use Rattle.simplex_core.proofs.WrittenNumbers.{entry_value-outside, at_cell, off_cell}
use Rattle.simplex_core.proofs.FirstTable.{filled-entry, filled-column}

-- an entry in another cell adds nothing
head-other : (e : Entry) (z : ℤ) (i j : ℕ) → (e.row ≡ i → e.col ≡ j → ⊥) → (if nat_eq j e.col then alone e.row z i else pos 0) ≡ pos 0
head-other e z i j apart = go (same_or_other j e.col) (same_or_other e.row i)
  where
    go : (j ≡ e.col) ⊎ (j ≢ e.col) → (e.row ≡ i) ⊎ (e.row ≢ i) → (if nat_eq j e.col then alone e.row z i else pos 0) ≡ pos 0
    go (inr d) w = choose-other j e.col (alone e.row z i) (pos 0) d
    go (inl s) (inl r) = absurd (apart r (sym s))
    go (inl s) (inr r) = choose-same j e.col (alone e.row z i) (pos 0) s ∙ alone-other e.row i z r

-- if no entry is in a cell, the sum there is 0
entries-none : (es : List Entry) (right : List ℤ) (i j : ℕ) → ((k : ℕ) (d : Entry) → slice_get es k ≡ Some d → d.row ≡ i → d.col ≡ j → ⊥) → entries_at es right i j ≡ pos 0
entries-none [] right i j none = refl
entries-none (e ∷ es) right i j none =
    let here = head-other e (sign_of (slice_index_or right e.row (pos 0)) *ℤ e.value) i j (none 0 e refl) in
    let others = entries-none es right i j (λ k d is. none (suc k) d is) in
    omega (arith, ints, here, others)

-- if no cell has two entries, the sum in a cell is the entry there
entries-sum : (es : List Entry) (right : List ℤ) (i j : ℕ)
    → ((k l : ℕ) (d e : Entry) → k < l → slice_get es k ≡ Some d → slice_get es l ≡ Some e → d.row ≡ e.row → d.col ≢ e.col)
    → entries_at es right i j ≡ signed_entries es right i j
entries-sum [] right i j once = nothing (sign_of (slice_index_or right i (pos 0)))
  where
    nothing : (s : ℤ) → pos 0 ≡ s *ℤ pos 0
    nothing s = omega (arith, ints)
entries-sum (e ∷ es) right i j once = go (same_or_other e.row i) (same_or_other e.col j) (entries-sum es right i j (λ k l d f m a b. once (suc k) (suc l) d f (omega arith) a b))
  where
    z : ℤ
    z = sign_of (slice_index_or right e.row (pos 0)) *ℤ e.value

    off : (e.row ≡ i → e.col ≡ j → ⊥) → entries_at es right i j ≡ signed_entries es right i j → entries_at (e ∷ es) right i j ≡ signed_entries (e ∷ es) right i j
    off apart rest =
        let here = head-other e z i j apart in
        let value = ap (λ (b : Bool). sign_of (slice_index_or right i (pos 0)) *ℤ (if b then e.value else entry_value es i j)) (off_cell e i j apart) in
        omega (arith, ints, here, rest, value)

    go : (e.row ≡ i) ⊎ (e.row ≢ i) → (e.col ≡ j) ⊎ (e.col ≢ j) → entries_at es right i j ≡ signed_entries es right i j → entries_at (e ∷ es) right i j ≡ signed_entries (e ∷ es) right i j
    go (inr d) w rest = off (λ r _. d r) rest
    go (inl r) (inr d) rest = off (λ _ s. d s) rest
    go (inl r) (inl s) rest =
        let here = choose-same j e.col (alone e.row z i) (pos 0) (sym s) ∙ alone-here e.row i z r in
        let none = entries-none es right i j (λ k d is row col. once 0 (suc k) e d (omega arith) refl is (r ∙ sym row) (s ∙ sym col)) in
        let sign = ap (λ (m : ℕ). sign_of (slice_index_or right m (pos 0)) *ℤ e.value) r in
        let value = ap (λ (b : Bool). sign_of (slice_index_or right i (pos 0)) *ℤ (if b then e.value else entry_value es i j)) (at_cell e i j r s) in
        omega (arith, ints, here, none, sign, value)

-- a column of the program has the first tableau's numbers
costed-entry : (q : Problem) (g : ℕ → ℕ → ℤ) (i j : ℕ) → IsProper q → ((i j : ℕ) → g i j ≡ signed_entries q.entries.items q.right.items i j) → i < q.rows + 3 → j < q.cols
    → with_cost_columns q.rows g q.first.items q.second.items q.cols i j
    ≡ with_costs q.rows (with_equations q.rows q.cols q.right.items (signed_entries q.entries.items q.right.items) q.rows) q.first.items q.second.items q.cols i j
costed-entry q g i j proper same li lj =
    ap (λ (z : ℤ). g i j +ℤ z) (choose-below j q.cols (costs i) (pos 0) lj) ∙ go (cases_lt i m)
  where
    m : ℕ
    m = q.rows

    n : ℕ
    n = q.cols

    f : ℤ
    f = slice_index_or q.first.items j (pos 0)

    s : ℤ
    s = slice_index_or q.second.items j (pos 0)

    sum : ℤ
    sum = sum_to m (λ r. g r j)

    costs : ℕ → ℤ
    costs i = costs_at m sum f s i

    w : ℕ → ℕ → ℤ
    w = with_equations m n q.right.items (signed_entries q.entries.items q.right.items) m

    sums : sum ≡ sum_to m (λ r. w r j)
    sums = sum_to-same m (λ r. g r j) (λ r. w r j) (λ r l. same r j ∙ sym (filled-column m n q.right.items (signed_entries q.entries.items q.right.items) r j l lj))

    outside : m ≤ i → g i j ≡ pos 0
    outside l = same i j ∙ mul-zero_ℤ _ _ (entry_value-outside q.rows q.cols q.entries.items i j proper.inside (inl l))

    cost : m ≤ i → with_costs m w q.first.items q.second.items n i j ≡ cost_number m w q.first.items q.second.items (i - m) j
    cost l = choose-above i m (w i j) _ l ∙ choose-below j n _ (w i j) lj

    go : (i < m) ⊎ (m ≤ i) → g i j +ℤ costs i ≡ with_costs m w q.first.items q.second.items n i j
    go (inl l) =
        let one = alone-other m i (pos 0 -ℤ sum) (λ e. omega arith) in
        let two = alone-other (m + 1) i f (λ e. omega arith) in
        let three = alone-other (m + 2) i s (λ e. omega arith) in
        let value = same i j in
        let filled = choose-below i m (w i j) (if nat_lt j n then cost_number m w q.first.items q.second.items (i - m) j else w i j) l
        ∙ filled-column m n q.right.items (signed_entries q.entries.items q.right.items) i j l lj in
        omega (arith, ints, one, two, three, value, filled)
    go (inr l) = at_cost (same_or_other i m) (same_or_other i (m + 1))
      where
        at_cost : (i ≡ m) ⊎ (i ≢ m) → (i ≡ m + 1) ⊎ (i ≢ m + 1) → g i j +ℤ costs i ≡ with_costs m w q.first.items q.second.items n i j
        at_cost (inl e) v =
            let one = alone-here m i (pos 0 -ℤ sum) (sym e) in
            let two = alone-other (m + 1) i f (λ x. omega arith) in
            let three = alone-other (m + 2) i s (λ x. omega arith) in
            let none = outside l in
            let value = cost l ∙ ap (λ (k : ℕ). cost_number m w q.first.items q.second.items k j) (zero_is i m e) in
            let both = sums in
            omega (arith, ints, one, two, three, none, value, both)
          where
            zero_is : (i m : ℕ) → i ≡ m → i - m ≡ 0
            zero_is i m e = omega arith
        at_cost (inr d) (inl e) =
            let one = alone-other m i (pos 0 -ℤ sum) (λ x. d (sym x)) in
            let two = alone-here (m + 1) i f (sym e) in
            let three = alone-other (m + 2) i s (λ x. omega arith) in
            let none = outside l in
            let value = cost l ∙ ap (λ (k : ℕ). cost_number m w q.first.items q.second.items k j) (one_is i m e) in
            omega (arith, ints, one, two, three, none, value)
          where
            one_is : (i m : ℕ) → i ≡ m + 1 → i - m ≡ 1
            one_is i m e = omega arith
        at_cost (inr d) (inr h) =
            let third : m + 2 ≡ i = omega arith in
            let one = alone-other m i (pos 0 -ℤ sum) (λ x. d (sym x)) in
            let two = alone-other (m + 1) i f (λ x. h (sym x)) in
            let three = alone-here (m + 2) i s third in
            let none = outside l in
            let value = cost l ∙ ap (λ (k : ℕ). cost_number m w q.first.items q.second.items k j) (two_is i m third) in
            omega (arith, ints, one, two, three, none, value)
          where
            two_is : (i m : ℕ) → m + 2 ≡ i → i - m ≡ 2
            two_is i m e = omega arith

-- an artificial unknown's column has the first tableau's numbers
unit-entry : (q : Problem) (i j : ℕ) → IsProper q → i < q.rows + 3 → q.cols ≤ j → j < q.cols + q.rows
    → alone (j - q.cols) (pos 1) i
    ≡ with_costs q.rows (with_equations q.rows q.cols q.right.items (signed_entries q.entries.items q.right.items) q.rows) q.first.items q.second.items q.cols i j
unit-entry q i j proper li above below = go (cases_lt i m) (same_or_other (j - n) i)
  where
    m : ℕ
    m = q.rows

    n : ℕ
    n = q.cols

    g : ℕ → ℕ → ℤ
    g = signed_entries q.entries.items q.right.items

    w : ℕ → ℕ → ℤ
    w = with_equations m n q.right.items g m

    outside : g i j ≡ pos 0
    outside = mul-zero_ℤ _ _ (entry_value-outside q.rows q.cols q.entries.items i j proper.inside (inr above))

    go : (i < m) ⊎ (m ≤ i) → (j - n ≡ i) ⊎ (j - n ≢ i) → alone (j - n) (pos 1) i ≡ with_costs m w q.first.items q.second.items n i j
    go (inl l) (inl e) =
        alone-here (j - n) i (pos 1) e
        ∙ sym (choose-below i m (w i j) _ l ∙ (choose-below i m _ (g i j) l ∙ choose-same j (n + i) (pos 1) _ (omega arith)))
    go (inl l) (inr d) =
        alone-other (j - n) i (pos 1) d
        ∙ sym (choose-below i m (w i j) _ l ∙ (choose-below i m _ (g i j) l ∙ (choose-other j (n + i) (pos 1) _ (λ x. d (omega arith)) ∙ (choose-other j (n + m) _ (g i j) (λ x. omega arith) ∙ outside))))
    go (inr l) v =
        alone-other (j - n) i (pos 1) (λ x. omega arith)
        ∙ sym (choose-above i m (w i j) _ l ∙ (choose-above j n _ (w i j) above ∙ (choose-above i m _ (g i j) l ∙ outside)))

-- the columns built from a problem show the first tableau
pub built-shows : (q : Problem) (table : ColumnTable) (es : List Entry) (sides first second : List ℤ) → IsProper q → table.rows ≡ q.rows → table.width ≡ q.cols
    → es ≡ q.entries.items → sides ≡ q.right.items → first ≡ q.first.items → second ≡ q.second.items
    → AreColumns table.columns.items (q.cols + q.rows) (with_units q.cols (with_cost_columns q.rows (entries_at es sides) first second q.cols))
    → HasSides table.right q.right.items q.rows → ((i : ℕ) → i < q.rows → slice_index table.basis.items i ≡ q.cols + i)
    → IsKept table → ShowsColumns (program_of q) table (first_tableau (program_of q))
built-shows q table es sides first second proper em en ee er ef ed are right basis beside = record {
  rows = em ∙ sym rows;
  columns = en ∙ sym columns;
  positive = (first-is_tableau p).positive;
  numbers = λ i j x l is.
      let within = slice_get_within table.columns.items j x is in
      let size = are.length_is in
      let below : j < q.cols + q.rows = omega arith in
      let li : i < q.rows + 3 = let r = rows in omega (arith, r, l) in
      whole (numerator x i) x.den i ((first_tableau p).entry i j) (are.numbers i j x is ∙ (value i j li below (cases_lt j q.cols) ∙ filled-entry q i j proper (inside i j li below))) (are.dens j x is);
  right = λ i l.
      let li : i < q.rows = let r = rows in omega (arith, r, l) in
      whole (numerator table.right i) table.right.den i ((first_tableau p).entry i (unknowns p))
      (right.numbers i li ∙ (sym (side i li) ∙ (filled-entry q i (q.cols + q.rows) proper (record { row = omega arith; column = omega arith; cost = λ k. absurd (omega arith) })
      ∙ ap (λ (k : ℕ). (first_tableau p).entry i k) (last_column)))) right.den;
  basis = λ i l. basis i (let r = rows in omega (arith, r, l)) ∙ (ap (λ (k : ℕ). k + i) (sym columns) ∙ sym (first-basis p i));
  beside = beside;
}
  where
    p : LinearProgram
    p = program_of q

    rows : p.rows ≡ q.rows
    rows = program-rows q

    columns : p.columns ≡ q.cols
    columns = program-columns q

    last_column : q.cols + q.rows ≡ unknowns p
    last_column = omega (arith, rows, columns)

    inside : (i j : ℕ) → i < q.rows + 3 → j < q.cols + q.rows → InTable q.rows q.cols i j
    inside i j l k = record { row = l; column = omega arith; cost = λ _. k }

    whole : (n d : ℤ) (i : ℕ) (z : ℤ) → n ≡ z → d ≡ pos 1 → n *ℤ (first_tableau p).scale i ≡ z *ℤ d
    whole n d i z a b = ap (λ (y : ℤ). y *ℤ (first_tableau p).scale i) a ∙ (ap (λ (y : ℤ). z *ℤ y) (first-scale p i) ∙ ap (λ (y : ℤ). z *ℤ y) (sym b))

    g : ℕ → ℕ → ℤ
    g = signed_entries q.entries.items q.right.items

    entries : (i j : ℕ) → entries_at es sides i j ≡ g i j
    entries i j =
        ap (λ (xs : List Entry). entries_at xs sides i j) ee ∙ (ap (λ (xs : List ℤ). entries_at q.entries.items xs i j) er
        ∙ entries-sum q.entries.items q.right.items i j proper.once)

    value : (i j : ℕ) → i < q.rows + 3 → j < q.cols + q.rows → (j < q.cols) ⊎ (q.cols ≤ j)
        → with_units q.cols (with_cost_columns q.rows (entries_at es sides) first second q.cols) i j
        ≡ with_costs q.rows (with_equations q.rows q.cols q.right.items g q.rows) q.first.items q.second.items q.cols i j
    value i j l k (inl b) =
        choose-below j q.cols _ _ b
        ∙ (ap (λ (xs : List ℤ). with_cost_columns q.rows (entries_at es sides) xs second q.cols i j) ef
        ∙ (ap (λ (xs : List ℤ). with_cost_columns q.rows (entries_at es sides) q.first.items xs q.cols i j) ed
        ∙ costed-entry q (entries_at es sides) i j proper entries l b))
    value i j l k (inr a) = choose-above j q.cols _ _ a ∙ unit-entry q i j proper l a k

    side : (i : ℕ) → i < q.rows
        → with_costs q.rows (with_equations q.rows q.cols q.right.items g q.rows) q.first.items q.second.items q.cols i (q.cols + q.rows)
        ≡ sign_of (slice_index_or q.right.items i (pos 0)) *ℤ slice_index_or q.right.items i (pos 0)
    side i l =
        choose-below i q.rows _ _ l ∙ (choose-below i q.rows _ (g i (q.cols + q.rows)) l
        ∙ (choose-other (q.cols + q.rows) (q.cols + i) (pos 1) _ (λ e. omega arith) ∙ choose-same (q.cols + q.rows) (q.cols + q.rows) _ (g i (q.cols + q.rows)) refl))

-- no entry is outside the rows
pub entries-outside : (q : Problem) (es : List Entry) (sides : List ℤ) (i j : ℕ) → IsProper q → es ≡ q.entries.items → q.rows ≤ i → entries_at es sides i j ≡ pos 0
entries-outside q es sides i j proper e l =
    ap (λ (xs : List Entry). entries_at xs sides i j) e
    ∙ (entries-sum q.entries.items sides i j proper.once
    ∙ mul-zero_ℤ _ _ (entry_value-outside q.rows q.cols q.entries.items i j proper.inside (inl l)))
