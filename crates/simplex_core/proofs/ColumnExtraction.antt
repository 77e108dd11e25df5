-- The basic solution and the dual, as they are read off a table of columns.
use Rattle.std.proofs.Common.{◌≡◌, ◌≢◌, ℕ, ◌+◌, ◌<◌, ◌≤◌, ap, arith, sym, ◌∙◌, subst, ◌⊎◌, inl, inr}
use Rattle.std.proofs.Common.{List, [], ◌∷◌, ◌++◌, length, Some}
use Rattle.std.specs.Prelude.{ℤ, pos, ◌-ℤ◌, ◌*ℤ◌, slice_get, slice_set, slice_index, slice_index_or}
use Rattle.std.proofs.lemmas.List.{length-set, length-append}
use Rattle.std.proofs.lemmas.Option.{slice_get_within}
use Rattle.frac128.specs.declared.frac.Frac.{Frac}
use Rattle.frac128.specs.Fraction.{IsFraction}
use Rattle.simplex_core.specs.declared.column_table.ColumnTable.{ColumnTable}
use Rattle.simplex_core.specs.Tableau.{sign_of}
use Rattle.sparse_columns.specs.declared.column.Column.{Column}
use Rattle.sparse_columns.specs.Columns.{numerator}
use Rattle.simplex_core.specs.ColumnResults.{IsBasicOf, HoldsBasicOf, HoldsDualOf}
use Rattle.simplex_core.proofs.Extraction.{slice_get-last, slice_get-before}
use Rattle.simplex_core.proofs.Searches.{last_or_before}
use Rattle.simplex_core.proofs.Invariant.{same_or_other}
use Rattle.simplex_core.proofs.Positions.{slice_get-set_same, slice_get-set_other}

-- a number of a column for which the next row isn't solved
other_number : (table : ColumnTable) (m j : ℕ) (f : Frac) → slice_index table.basis.items m ≢ j → IsBasicOf table m j f → IsBasicOf table (m + 1) j f
other_number table m j f apart (inl h) = inl (h.0, omega (arith, h.1), h.2, h.3)
other_number table m j f apart (inr h) = inr (h.0, λ i l. go i (last_or_before m i (omega arith)))
  where
    go : (i : ℕ) → (i ≡ m) ⊎ (i < m) → slice_index table.basis.items i ≢ j
    go i (inl e) = λ g. apart (ap (λ (k : ℕ). slice_index table.basis.items k) (sym e) ∙ g)
    go i (inr l) = h.1 i l

-- after the next row's right side is written, the list holds the basic solution's numbers by one more row
pub basic-written : (table : ColumnTable) (m b : ℕ) (at : List Frac) (g : Frac) → HoldsBasicOf table m at → slice_index table.basis.items m ≡ b → b < length at
    → IsFraction g (numerator table.right m) table.right.den → HoldsBasicOf table (m + 1) (slice_set at b g)
basic-written table m b at g h solved wide is = record {
  length_is = length-set at b g ∙ h.length_is;
  each = λ j f read. go j f read (same_or_other j b);
}
  where
    go : (j : ℕ) (f : Frac) → slice_get (slice_set at b g) j ≡ Some f → (j ≡ b) ⊎ (j ≢ b) → IsBasicOf table (m + 1) j f
    go j f read (inl e) =
        let here = ap (λ (k : ℕ). slice_get (slice_set at b g) k) e ∙ slice_get-set_same at b g wide in
        let same : g ≡ f = cc in
        inl (m, omega arith, solved ∙ sym e, subst (λ (h : Frac). IsFraction h (numerator table.right m) table.right.den) same is)
    go j f read (inr d) = other_number table m j f (λ e. d (sym (sym solved ∙ e))) (h.each j f (sym (slice_get-set_other at b j g d) ∙ read))

-- if the next row isn't solved for a column of the program, the list holds the basic solution's numbers by one more row
pub basic-skipped : (table : ColumnTable) (m b : ℕ) (at : List Frac) → HoldsBasicOf table m at → slice_index table.basis.items m ≡ b → table.width ≤ b → HoldsBasicOf table (m + 1) at
basic-skipped table m b at h solved above = record {
  length_is = h.length_is;
  each = λ j f read.
      let within = slice_get_within at j f read in
      let size = h.length_is in
      other_number table m j f (λ e. let g = sym solved ∙ e in omega arith) (h.each j f read);
}

-- after the next row's number is appended, the list holds the dual's numbers of one more row
pub dual-added : (table : ColumnTable) (right : List ℤ) (m : ℕ) (dual : List Frac) (y : Frac) → HoldsDualOf table right m dual
    → ((x : Column) → slice_get table.columns.items (table.width + m) ≡ Some x → IsFraction y (sign_of (slice_index_or right m (pos 0)) *ℤ (x.den -ℤ numerator x table.rows)) x.den)
    → HoldsDualOf table right (m + 1) (dual ++ (y ∷ []))
dual-added table right m dual y h here = record {
  length_is = let e = h.length_is in omega (arith, e, length-append {A = Frac} dual (y ∷ []));
  each = λ k z x l read is. go k z x (last_or_before m k (omega arith)) read is;
}
  where
    go : (k : ℕ) (z : Frac) (x : Column) → (k ≡ m) ⊎ (k < m) → slice_get (dual ++ (y ∷ [])) k ≡ Some z → slice_get table.columns.items (table.width + k) ≡ Some x
        → IsFraction z (sign_of (slice_index_or right k (pos 0)) *ℤ (x.den -ℤ numerator x table.rows)) x.den
    go k z x (inl e) read is =
        let last = ap (λ (i : ℕ). slice_get (dual ++ (y ∷ [])) i) (e ∙ sym h.length_is) ∙ slice_get-last dual y in
        let same : y ≡ z = cc in
        subst (λ (w : Frac). IsFraction w (sign_of (slice_index_or right k (pos 0)) *ℤ (x.den -ℤ numerator x table.rows)) x.den) same
        (subst (λ (i : ℕ). IsFraction y (sign_of (slice_index_or right i (pos 0)) *ℤ (x.den -ℤ numerator x table.rows)) x.den) (sym e)
        (here x (ap (λ (i : ℕ). slice_get table.columns.items (table.width + i)) (sym e) ∙ is)))
    go k z x (inr l) read is =
        let size = h.length_is in
        h.each k z x l (sym (slice_get-before dual y k (omega arith)) ∙ read) is
