-- After a pivot, the table of fractions shows the tableau after the pivot.
use Rattle.std.proofs.Common.{◌≡◌, ◌≢◌, ℕ, ◌+◌, ◌<◌, ap, arith, refl, sym, ◌∙◌, subst, ◌⊎◌, inl, inr, [], ◌∷◌}
use Rattle.std.proofs.Common.{Some}
use Rattle.std.specs.Prelude.{ℤ, pos, ◌-ℤ◌, ◌*ℤ◌, ◌<ℤ◌, slice_index, slice_set}
use Rattle.std.proofs.lemmas.List.{get_or-set_same, get_or-set_other}
use Rattle.frac128.specs.declared.frac.Frac.{Frac}
use Rattle.frac128.specs.Fraction.{IsFraction}
use Rattle.int_laws.specs.Polynomial.{variable, constant, ◌⊖◌, ◌⊗◌}
use Rattle.int_laws.proofs.Identities.{identity, identity_by_one}
use Rattle.int_laws.proofs.OrderLaws.{mul-cancel_ℤ, mul-positive_ℤ}
use Rattle.simplex_core.specs.declared.sparse_table.SparseTable.{SparseTable}
use Rattle.linear_forms.specs.LinearProgram.{LinearProgram}
use Rattle.simplex_core.specs.Tableau.{Tableau, pivot}
use Rattle.simplex_core.specs.Cells.{cell, IsPivoted, Shows}
use Rattle.simplex_core.specs.Positions.{InTable}
use Rattle.simplex_core.proofs.Invariant.{same_or_other}
use Rattle.simplex_core.proofs.Regions.{pivot-row, pivot-other, pivot-scale, pivot-other_scale, pivot-basis}
use Rattle.simplex_core.proofs.Regions.{pivot-other_basis}
use Rattle.simplex_core.proofs.TableLines.{cell-there}
use Rattle.simplex_core.proofs.CellLaws.{InTable-same}

-- f/g is (n/d) / (m/b), where n/d is x/s and m/b is y/s: hence f/g = x/y
quotient-shows : (f g n d m b s x y : ℤ) → pos 0 <ℤ d → pos 0 <ℤ b → n *ℤ s ≡ x *ℤ d → m *ℤ s ≡ y *ℤ b → f *ℤ (d *ℤ m) ≡ (n *ℤ b) *ℤ g → f *ℤ y ≡ x *ℤ g
quotient-shows f g n d m b s x y pd pb first second divided =
    mul-cancel_ℤ (d *ℤ b) (f *ℤ y) (x *ℤ g) (mul-positive_ℤ d b pd pb)
    (identity_by_one (f ∷ d ∷ m ∷ b ∷ s ∷ y ∷ []) ((variable 1 ⊗ variable 3) ⊗ (variable 0 ⊗ variable 5)) (variable 4 ⊗ (variable 0 ⊗ (variable 1 ⊗ variable 2)))
    (constant (pos 0) ⊖ variable 0 ⊗ variable 1) (variable 2 ⊗ variable 4) (variable 5 ⊗ variable 3) second refl
    ∙ (ap (λ (z : ℤ). s *ℤ z) divided
    ∙ identity_by_one (n ∷ b ∷ g ∷ s ∷ x ∷ d ∷ []) (variable 3 ⊗ ((variable 0 ⊗ variable 1) ⊗ variable 2)) ((variable 5 ⊗ variable 1) ⊗ (variable 4 ⊗ variable 2))
    (variable 1 ⊗ variable 2) (variable 0 ⊗ variable 3) (variable 4 ⊗ variable 5) first refl))

-- f/g is n/d less h/k times u/v, where n/d is x/s, h/k is z/s and u/v is w/y: hence f/g = (x y - z w)/(s y)
difference-shows : (f g n d h k u v s x y z w : ℤ) → pos 0 <ℤ d → pos 0 <ℤ k → pos 0 <ℤ v
    → n *ℤ s ≡ x *ℤ d → h *ℤ s ≡ z *ℤ k → u *ℤ y ≡ w *ℤ v
    → f *ℤ ((d *ℤ k) *ℤ v) ≡ ((n *ℤ k) *ℤ v -ℤ (h *ℤ u) *ℤ d) *ℤ g
    → f *ℤ (s *ℤ y) ≡ (x *ℤ y -ℤ z *ℤ w) *ℤ g
difference-shows f g n d h k u v s x y z w pd pk pv first second third cleared =
    mul-cancel_ℤ ((d *ℤ k) *ℤ v) (f *ℤ (s *ℤ y)) ((x *ℤ y -ℤ z *ℤ w) *ℤ g) (mul-positive_ℤ (d *ℤ k) v (mul-positive_ℤ d k pd pk) pv)
    (identity (f ∷ d ∷ k ∷ v ∷ s ∷ y ∷ []) (((variable 1 ⊗ variable 2) ⊗ variable 3) ⊗ (variable 0 ⊗ (variable 4 ⊗ variable 5)))
    ((variable 4 ⊗ variable 5) ⊗ (variable 0 ⊗ ((variable 1 ⊗ variable 2) ⊗ variable 3))) refl
    ∙ (ap (λ (a : ℤ). (s *ℤ y) *ℤ a) cleared
    ∙ (identity_by_one (n ∷ d ∷ h ∷ k ∷ u ∷ v ∷ s ∷ x ∷ y ∷ g ∷ [])
    ((variable 6 ⊗ variable 8) ⊗ (((variable 0 ⊗ variable 3) ⊗ variable 5 ⊖ (variable 2 ⊗ variable 4) ⊗ variable 1) ⊗ variable 9))
    (((variable 7 ⊗ variable 1) ⊗ variable 8 ⊗ variable 3 ⊗ variable 5 ⊖ (variable 6 ⊗ variable 2) ⊗ (variable 8 ⊗ variable 4) ⊗ variable 1) ⊗ variable 9)
    (variable 8 ⊗ variable 3 ⊗ variable 5 ⊗ variable 9) (variable 0 ⊗ variable 6) (variable 7 ⊗ variable 1) first refl
    ∙ (identity_by_one (d ∷ h ∷ k ∷ u ∷ v ∷ s ∷ x ∷ y ∷ z ∷ g ∷ [])
    (((variable 6 ⊗ variable 0) ⊗ variable 7 ⊗ variable 2 ⊗ variable 4 ⊖ (variable 5 ⊗ variable 1) ⊗ (variable 7 ⊗ variable 3) ⊗ variable 0) ⊗ variable 9)
    (((variable 6 ⊗ variable 0) ⊗ variable 7 ⊗ variable 2 ⊗ variable 4 ⊖ (variable 8 ⊗ variable 2) ⊗ (variable 7 ⊗ variable 3) ⊗ variable 0) ⊗ variable 9)
    (constant (pos 0) ⊖ (variable 7 ⊗ variable 3) ⊗ variable 0 ⊗ variable 9) (variable 1 ⊗ variable 5) (variable 8 ⊗ variable 2) second refl
    ∙ identity_by_one (d ∷ k ∷ u ∷ v ∷ x ∷ y ∷ z ∷ w ∷ g ∷ [])
    (((variable 4 ⊗ variable 0) ⊗ variable 5 ⊗ variable 1 ⊗ variable 3 ⊖ (variable 6 ⊗ variable 1) ⊗ (variable 5 ⊗ variable 2) ⊗ variable 0) ⊗ variable 8)
    (((variable 0 ⊗ variable 1) ⊗ variable 3) ⊗ ((variable 4 ⊗ variable 5 ⊖ variable 6 ⊗ variable 7) ⊗ variable 8))
    (constant (pos 0) ⊖ (variable 6 ⊗ variable 1) ⊗ variable 0 ⊗ variable 8) (variable 2 ⊗ variable 5) (variable 7 ⊗ variable 3) third refl))))

-- the pivot row of the table shows that of the tableau
pivot_row-shows : (p : LinearProgram) (a e : SparseTable) (t : Tableau) (r c j : ℕ) (f : Frac) → Shows p a t → IsPivoted a e r c → r < p.rows → c < p.columns
    → InTable p.rows p.columns r j → cell e r j ≡ Some f → IsFraction f (t.entry r j) (t.entry r c)
pivot_row-shows p a e t r c j f shows pivoted lr lc inside is =
    let at_pivot : InTable p.rows p.columns r c = record { row = omega arith; column = omega arith; cost = λ k. absurd (omega arith) } in
    let old = cell-there a r j (InTable-same p.rows p.columns a.rows a.columns r j (sym shows.rows) (sym shows.columns) inside) in
    let by = cell-there a r c (InTable-same p.rows p.columns a.rows a.columns r c (sym shows.rows) (sym shows.columns) at_pivot) in
    quotient-shows f.num f.den old.0.num old.0.den by.0.num by.0.den (t.scale r) (t.entry r j) (t.entry r c) old.0.positive by.0.positive
    (shows.numbers r j old.0 inside old.1) (shows.numbers r c by.0 at_pivot by.1)
    (pivoted.divided j old.0 by.0 f (InTable-same p.rows p.columns a.rows a.columns r j (sym shows.rows) (sym shows.columns) inside) old.1 by.1 is)

-- another row of the table shows that of the tableau
other_row-shows : (p : LinearProgram) (a e : SparseTable) (t : Tableau) (r c i j : ℕ) (f : Frac) → Shows p a t → IsPivoted a e r c → r < p.rows → c < p.columns → i ≢ r
    → InTable p.rows p.columns i j → cell e i j ≡ Some f
    → IsFraction f (t.entry i j *ℤ t.entry r c -ℤ t.entry i c *ℤ t.entry r j) (t.scale i *ℤ t.entry r c)
other_row-shows p a e t r c i j f shows pivoted lr lc apart inside is =
    let m = shows.rows in
    let n = shows.columns in
    let m' = pivoted.rows in
    let n' = pivoted.columns in
    let k = inside.row in
    let l = inside.column in
    let at_row : InTable p.rows p.columns r j = record { row = omega arith; column = l; cost = λ b. absurd (omega arith) } in
    let at_column : InTable p.rows p.columns i c = record { row = k; column = omega arith; cost = λ b. omega arith } in
    let old = cell-there a i j (InTable-same p.rows p.columns a.rows a.columns i j (sym m) (sym n) inside) in
    let factor = cell-there a i c (InTable-same p.rows p.columns a.rows a.columns i c (sym m) (sym n) at_column) in
    let divided = cell-there e r j (InTable-same p.rows p.columns e.rows e.columns r j (sym (m' ∙ m)) (sym (n' ∙ n)) at_row) in
    difference-shows f.num f.den old.0.num old.0.den factor.0.num factor.0.den divided.0.num divided.0.den (t.scale i) (t.entry i j) (t.entry r c) (t.entry i c) (t.entry r j)
    old.0.positive factor.0.positive divided.0.positive
    (shows.numbers i j old.0 inside old.1) (shows.numbers i c factor.0 at_column factor.1)
    (pivot_row-shows p a e t r c j divided.0 shows pivoted lr lc at_row divided.1)
    (pivoted.cleared i j old.0 factor.0 divided.0 f apart (InTable-same p.rows p.columns a.rows a.columns i j (sym m) (sym n) inside) old.1 factor.1 divided.1 is)

-- the scales are above 0 after a pivot at an entry above 0
pub pivot_scale-positive : (p : LinearProgram) (t : Tableau) (r c i : ℕ) → ((k : ℕ) → k < p.rows + 3 → pos 0 <ℤ t.scale k) → pos 0 <ℤ t.entry r c → i < p.rows + 3
    → (i ≡ r) ⊎ (i ≢ r) → pos 0 <ℤ (pivot t r c).scale i
pivot_scale-positive p t r c i scales entry l (inl s) =
    subst (λ (k : ℕ). pos 0 <ℤ (pivot t r c).scale k) (sym s) (subst (λ (z : ℤ). pos 0 <ℤ z) (sym (pivot-scale t r c)) entry)
pivot_scale-positive p t r c i scales entry l (inr d) =
    subst (λ (z : ℤ). pos 0 <ℤ z) (sym (pivot-other_scale t r c i d)) (mul-positive_ℤ (t.scale i) (t.entry r c) (scales i l) entry)

-- after a pivot of the table at an entry above 0 it shows the tableau after the pivot
pub pivot-shows : (p : LinearProgram) (a e : SparseTable) (t : Tableau) (r c : ℕ) → Shows p a t → IsPivoted a e r c → r < p.rows → c < p.columns → pos 0 <ℤ t.entry r c
    → Shows p e (pivot t r c)
pivot-shows p a e t r c shows pivoted lr lc entry = record {
  positive = λ i l. pivot_scale-positive p t r c i shows.positive entry l (same_or_other i r);
  rows = pivoted.rows ∙ shows.rows;
  columns = pivoted.columns ∙ shows.columns;
  numbers = λ i j f inside is. numbers i j f inside is (same_or_other i r);
  basis = λ i l. ap (λ (xs : _). slice_index xs i) pivoted.basis ∙ basis i l (same_or_other i r);
}
  where
    numbers : (i j : ℕ) (f : Frac) → InTable p.rows p.columns i j → cell e i j ≡ Some f → (i ≡ r) ⊎ (i ≢ r) → IsFraction f ((pivot t r c).entry i j) ((pivot t r c).scale i)
    numbers i j f inside is (inl s) =
        subst (λ (k : ℕ). IsFraction f ((pivot t r c).entry k j) ((pivot t r c).scale k)) (sym s)
        (ap (λ (z : ℤ). f.num *ℤ z) (pivot-scale t r c)
        ∙ (pivot_row-shows p a e t r c j f shows pivoted lr lc (subst (λ (k : ℕ). InTable p.rows p.columns k j) s inside) (subst (λ (k : ℕ). cell e k j ≡ Some f) s is)
        ∙ ap (λ (z : ℤ). z *ℤ f.den) (sym (pivot-row t r c j))))
    numbers i j f inside is (inr d) =
        ap (λ (z : ℤ). f.num *ℤ z) (pivot-other_scale t r c i d)
        ∙ (other_row-shows p a e t r c i j f shows pivoted lr lc d inside is
        ∙ ap (λ (z : ℤ). z *ℤ f.den) (sym (pivot-other t r c i j d)))

    basis : (i : ℕ) → i < p.rows → (i ≡ r) ⊎ (i ≢ r) → slice_index (slice_set a.basis.items r c) i ≡ (pivot t r c).basis i
    basis i l (inl s) =
        subst (λ (k : ℕ). slice_index (slice_set a.basis.items r c) k ≡ (pivot t r c).basis k) (sym s)
        (get_or-set_same a.basis.items r c 0 (let m = shows.rows in let n = a.based in omega arith) ∙ sym (pivot-basis t r c))
    basis i l (inr d) = get_or-set_other a.basis.items r i c 0 d ∙ (shows.basis i l ∙ sym (pivot-other_basis t r c i d))
