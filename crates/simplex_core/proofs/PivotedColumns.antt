-- After a pivot, a table of columns shows the tableau after the pivot.
use Rattle.std.proofs.Common.{◌≡◌, ◌≢◌, ℕ, ◌<◌, ap, arith, refl, sym, ◌∙◌, subst, ◌⊎◌, inl, inr, List, [], ◌∷◌, Some}
use Rattle.std.specs.Prelude.{ℤ, pos, ◌-ℤ◌, ◌*ℤ◌, ◌<ℤ◌, slice_get, slice_index, slice_set}
use Rattle.std.proofs.lemmas.Int.{ints}
use Rattle.std.proofs.lemmas.Option.{slice_get_within}
use Rattle.std.proofs.lemmas.List.{get_or-set_same, get_or-set_other}
use Rattle.int_laws.specs.Polynomial.{variable, constant, ◌⊖◌, ◌⊗◌}
use Rattle.int_laws.proofs.Identities.{identity_by_one, identity_by_two}
use Rattle.int_laws.proofs.OrderLaws.{mul-cancel_ℤ}
use Rattle.sparse_columns.specs.declared.cell.Cell.{Cell}
use Rattle.sparse_columns.specs.declared.column.Column.{Column}
use Rattle.sparse_columns.specs.Numbers.{alone, number_of}
use Rattle.sparse_columns.specs.Columns.{numerator, IsCleared}
use Rattle.sparse_columns.proofs.Lookups.{alone-here, alone-other}
use Rattle.linear_forms.specs.LinearProgram.{LinearProgram}
use Rattle.simplex_core.specs.Tableau.{Tableau, unknowns, pivot}
use Rattle.simplex_core.specs.declared.column_table.ColumnTable.{ColumnTable}
use Rattle.simplex_core.specs.ColumnTables.{ShowsColumns, ShowsNumber, IsPivotedBy}
use Rattle.simplex_core.proofs.Positions.{slice_get-there}
use Rattle.simplex_core.proofs.Invariant.{same_or_other}
use Rattle.simplex_core.proofs.ColumnTableLaws.{column-there}
use Rattle.simplex_core.proofs.PivotedTable.{pivot_scale-positive}
use Rattle.simplex_core.proofs.Regions.{pivot-row, pivot-other, pivot-scale, pivot-other_scale, pivot-basis, pivot-other_basis}

-- the ratio of a column's number in the pivot's row to the pivot, in terms of the tableau
ratio-shows : (e f o u x s k j d : ℤ) → e *ℤ o ≡ x *ℤ u → e *ℤ s ≡ k *ℤ f → x *ℤ s ≡ j *ℤ d → o *ℤ (k *ℤ f) ≡ (j *ℤ d) *ℤ u
ratio-shows e f o u x s k j d ratio pivot number =
    ap (λ (z : ℤ). o *ℤ z) (sym pivot)
    ∙ (identity_by_one (e ∷ o ∷ s ∷ x ∷ u ∷ []) (variable 1 ⊗ (variable 0 ⊗ variable 2)) ((variable 3 ⊗ variable 2) ⊗ variable 4) (variable 2) (variable 0 ⊗ variable 1) (variable 3 ⊗ variable 4) ratio refl
    ∙ ap (λ (z : ℤ). z *ℤ u) number)

-- a number outside the pivot's row shows that of the tableau after the pivot
other-shows : (n g x u e o s t d c f k j d' : ℤ) → pos 0 <ℤ g → n *ℤ g ≡ x *ℤ u -ℤ e *ℤ o → x *ℤ s ≡ t *ℤ d → e *ℤ s ≡ c *ℤ f → o *ℤ (k *ℤ f) ≡ (j *ℤ d) *ℤ u
    → d' *ℤ g ≡ d *ℤ u → n *ℤ (s *ℤ k) ≡ (t *ℤ k -ℤ c *ℤ j) *ℤ d'
other-shows n g x u e o s t d c f k j d' positive number shown entering ratio den =
    mul-cancel_ℤ g _ _ positive
    (identity_by_two (n ∷ g ∷ x ∷ u ∷ e ∷ o ∷ s ∷ t ∷ d ∷ k ∷ [])
    (variable 1 ⊗ (variable 0 ⊗ (variable 6 ⊗ variable 9))) (variable 3 ⊗ variable 9 ⊗ variable 7 ⊗ variable 8 ⊖ variable 5 ⊗ variable 9 ⊗ variable 4 ⊗ variable 6)
    (variable 6 ⊗ variable 9) (variable 0 ⊗ variable 1) (variable 2 ⊗ variable 3 ⊖ variable 4 ⊗ variable 5)
    (variable 3 ⊗ variable 9) (variable 2 ⊗ variable 6) (variable 7 ⊗ variable 8) number shown refl
    ∙ (identity_by_two (u ∷ e ∷ o ∷ s ∷ t ∷ d ∷ c ∷ f ∷ k ∷ j ∷ [])
    (variable 0 ⊗ variable 8 ⊗ variable 4 ⊗ variable 5 ⊖ variable 2 ⊗ variable 8 ⊗ variable 1 ⊗ variable 3)
    (variable 0 ⊗ variable 8 ⊗ variable 4 ⊗ variable 5 ⊖ variable 6 ⊗ variable 9 ⊗ variable 5 ⊗ variable 0)
    (constant (pos 0) ⊖ variable 2 ⊗ variable 8) (variable 1 ⊗ variable 3) (variable 6 ⊗ variable 7)
    (constant (pos 0) ⊖ variable 6) (variable 2 ⊗ (variable 8 ⊗ variable 7)) ((variable 9 ⊗ variable 5) ⊗ variable 0) entering ratio refl
    ∙ identity_by_one (u ∷ t ∷ d ∷ c ∷ k ∷ j ∷ d' ∷ g ∷ [])
    (variable 0 ⊗ variable 4 ⊗ variable 1 ⊗ variable 2 ⊖ variable 3 ⊗ variable 5 ⊗ variable 2 ⊗ variable 0)
    (variable 7 ⊗ ((variable 1 ⊗ variable 4 ⊖ variable 3 ⊗ variable 5) ⊗ variable 6))
    (constant (pos 0) ⊖ (variable 1 ⊗ variable 4 ⊖ variable 3 ⊗ variable 5)) (variable 6 ⊗ variable 7) (variable 2 ⊗ variable 0) den refl))

-- a number in the pivot's row shows that of the tableau after the pivot
row-shows : (n g x u e o f k j d d' : ℤ) → pos 0 <ℤ g → n *ℤ g ≡ x *ℤ u -ℤ (e -ℤ f) *ℤ o → e *ℤ o ≡ x *ℤ u → o *ℤ (k *ℤ f) ≡ (j *ℤ d) *ℤ u → d' *ℤ g ≡ d *ℤ u
    → n *ℤ k ≡ j *ℤ d'
row-shows n g x u e o f k j d d' positive number same ratio den =
    mul-cancel_ℤ g _ _ positive
    (identity_by_two (n ∷ g ∷ x ∷ u ∷ e ∷ o ∷ f ∷ k ∷ [])
    (variable 1 ⊗ (variable 0 ⊗ variable 7)) (variable 5 ⊗ (variable 7 ⊗ variable 6))
    (variable 7) (variable 0 ⊗ variable 1) (variable 2 ⊗ variable 3 ⊖ (variable 4 ⊖ variable 6) ⊗ variable 5)
    (constant (pos 0) ⊖ variable 7) (variable 4 ⊗ variable 5) (variable 2 ⊗ variable 3) number same refl
    ∙ (ratio
    ∙ identity_by_one (u ∷ j ∷ d ∷ d' ∷ g ∷ []) ((variable 1 ⊗ variable 2) ⊗ variable 0) (variable 4 ⊗ (variable 1 ⊗ variable 3))
    (constant (pos 0) ⊖ variable 1) (variable 3 ⊗ variable 4) (variable 2 ⊗ variable 0) den refl))

-- a cleared column shows the numbers after the pivot
cleared-shows : (t : Tableau) (r c i j : ℕ) (e a b : Column) (pivot_number : ℤ) (shifted : List Cell) → pos 0 <ℤ t.entry r c → pivot_number ≡ numerator e r
    → number_of shifted i ≡ numerator e i -ℤ alone r e.den i → IsCleared a b r pivot_number shifted
    → ShowsNumber a i (t.entry i j) (t.scale i) → ShowsNumber a r (t.entry r j) (t.scale r) → ShowsNumber e i (t.entry i c) (t.scale i) → ShowsNumber e r (t.entry r c) (t.scale r)
    → ShowsNumber b i ((pivot t r c).entry i j) ((pivot t r c).scale i)
cleared-shows t r c i j e a b w shifted positive is shifts h shown_i shown_r entering_i entering_r = go (same_or_other i r)
  where
    same : numerator e r *ℤ h.over ≡ numerator a r *ℤ h.under
    same = ap (λ (z : ℤ). z *ℤ h.over) (sym is) ∙ h.ratio

    ratio : h.over *ℤ (t.entry r c *ℤ e.den) ≡ (t.entry r j *ℤ a.den) *ℤ h.under
    ratio = ratio-shows (numerator e r) e.den h.over h.under (numerator a r) (t.scale r) (t.entry r c) (t.entry r j) a.den same entering_r shown_r

    go : (i ≡ r) ⊎ (i ≢ r) → ShowsNumber b i ((pivot t r c).entry i j) ((pivot t r c).scale i)
    go (inl s) =
        subst (λ (k : ℕ). ShowsNumber b k ((pivot t r c).entry k j) ((pivot t r c).scale k)) (sym s)
        (ap (λ (z : ℤ). numerator b r *ℤ z) (pivot-scale t r c)
        ∙ (row-shows (numerator b r) h.divisor (numerator a r) h.under (numerator e r) h.over e.den (t.entry r c) (t.entry r j) a.den b.den h.positive
        (h.numbers r ∙ ap (λ (z : ℤ). numerator a r *ℤ h.under -ℤ z *ℤ h.over) at_row) same ratio h.den
        ∙ ap (λ (z : ℤ). z *ℤ b.den) (sym (pivot-row t r c j))))
      where
        at_row : number_of shifted r ≡ numerator e r -ℤ e.den
        at_row =
            subst (λ (k : ℕ). number_of shifted k ≡ numerator e k -ℤ alone r e.den k) s shifts
            ∙ ap (λ (z : ℤ). numerator e r -ℤ z) (alone-here r r e.den refl)
    go (inr d) =
        ap (λ (z : ℤ). numerator b i *ℤ z) (pivot-other_scale t r c i d)
        ∙ (other-shows (numerator b i) h.divisor (numerator a i) h.under (numerator e i) h.over (t.scale i) (t.entry i j) a.den (t.entry i c) e.den (t.entry r c) (t.entry r j) b.den h.positive
        (h.numbers i ∙ ap (λ (z : ℤ). numerator a i *ℤ h.under -ℤ z *ℤ h.over) in_row) shown_i entering_i ratio h.den
        ∙ ap (λ (z : ℤ). z *ℤ b.den) (sym (pivot-other t r c i j d)))
      where
        in_row : number_of shifted i ≡ numerator e i
        in_row = let none = alone-other r i e.den (λ f. d (sym f)) in omega (arith, ints, shifts, none)

-- after a pivot at an entry above 0 the table shows the tableau after the pivot
pub pivoted-shows : (p : LinearProgram) (a d : ColumnTable) (t : Tableau) (r c : ℕ) (w : ℤ) (shifted : List Cell) → ShowsColumns p a t → IsPivotedBy a d r c w shifted → r < p.rows
    → c < a.width → pos 0 <ℤ t.entry r c → ShowsColumns p d (pivot t r c)
pivoted-shows p a d t r c w shifted shows made lr lc positive = record {
  rows = made.rows ∙ shows.rows;
  columns = made.columns ∙ shows.columns;
  positive = λ i l. pivot_scale-positive p t r c i shows.positive positive l (same_or_other i r);
  numbers = λ i j y l is.
      let width = made.columns in
      let rows = made.rows in
      let unknowns_a = a.unknowns in
      let unknowns_d = d.unknowns in
      let within = slice_get_within d.columns.items j y is in
      let x = slice_get-there a.columns.items j (omega (arith, width, rows, unknowns_a, unknowns_d, within)) in
      cleared-shows t r c i j e.0 x.0 y w shifted positive (made.pivot_is e.0 e.1) (made.shifts.each i e.0 e.1) (made.cleared j x.0 y x.1 is)
      (shows.numbers i j x.0 l x.1) (shows.numbers r j x.0 (omega arith) x.1) (shows.numbers i c e.0 l e.1) (shows.numbers r c e.0 (omega arith) e.1);
  right = λ i l.
      cleared-shows t r c i (unknowns p) e.0 a.right d.right w made.front positive (made.pivot_is e.0 e.1)
      (made.fronts i (let rows = shows.rows in omega arith) ∙ made.shifts.each i e.0 e.1) made.right
      (shows.right i l) (shows.right r lr) (shows.numbers i c e.0 (omega arith) e.1) (shows.numbers r c e.0 (omega arith) e.1);
  basis = λ i l. ap (λ (xs : List ℕ). slice_index xs i) made.basis ∙ basis i l (same_or_other i r);
  beside = made.beside;
}
  where
    e : (x : Column) × (slice_get a.columns.items c ≡ Some x)
    e = column-there a c lc

    basis : (i : ℕ) → i < p.rows → (i ≡ r) ⊎ (i ≢ r) → slice_index (slice_set a.basis.items r c) i ≡ (pivot t r c).basis i
    basis i l (inl s) =
        subst (λ (k : ℕ). slice_index (slice_set a.basis.items r c) k ≡ (pivot t r c).basis k) (sym s)
        (get_or-set_same a.basis.items r c 0 (let m = shows.rows in let n = a.based in omega arith) ∙ sym (pivot-basis t r c))
    basis i l (inr f) = get_or-set_other a.basis.items r i c 0 f ∙ (shows.basis i l ∙ sym (pivot-other_basis t r c i f))
