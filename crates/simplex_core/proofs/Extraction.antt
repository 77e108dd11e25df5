-- The basic solution and the dual, as they are read off a table.
use Rattle.std.proofs.Common.{◌≡◌, ◌≢◌, ℕ, zero, suc, ◌+◌, ◌<◌, ◌≤◌, ap, arith, refl, sym, ◌∙◌, subst, ◌⊎◌, inl, inr}
use Rattle.std.proofs.Common.{List, [], ◌∷◌, ◌++◌, length, Some}
use Rattle.std.specs.Prelude.{ℤ, pos, negsuc, ◌-ℤ◌, ◌*ℤ◌, slice_get, slice_set, slice_index, slice_index_or}
use Rattle.std.proofs.lemmas.List.{length-set, length-append}
use Rattle.std.proofs.lemmas.Option.{slice_get_within}
use Rattle.frac128.specs.declared.frac.Frac.{Frac}
use Rattle.frac128.specs.Fraction.{IsFraction}
use Rattle.int_laws.specs.Polynomial.{variable, constant, ◌⊖◌, ◌⊗◌}
use Rattle.int_laws.proofs.Identities.{identity_by_one}
use Rattle.simplex_core.specs.declared.sparse_table.SparseTable.{SparseTable}
use Rattle.simplex_core.specs.Tableau.{sign_of}
use Rattle.simplex_core.specs.Cells.{cell, IsBasicNumber, HoldsBasic, HoldsDual}
use Rattle.simplex_core.proofs.Searches.{last_or_before}
use Rattle.simplex_core.proofs.Invariant.{same_or_other}
use Rattle.simplex_core.proofs.Positions.{slice_get-set_same, slice_get-set_other}

-- a number of a column for which the next row isn't solved
other_number : (table : SparseTable) (m j : ℕ) (f : Frac) → slice_index table.basis.items m ≢ j → IsBasicNumber table m j f → IsBasicNumber table (m + 1) j f
other_number table m j f apart (inl h) = inl (h.0, omega (arith, h.1), h.2, h.3)
other_number table m j f apart (inr h) = inr (h.0, λ i l. go i (last_or_before m i (omega arith)))
  where
    go : (i : ℕ) → (i ≡ m) ⊎ (i < m) → slice_index table.basis.items i ≢ j
    go i (inl e) = λ g. apart (ap (λ (k : ℕ). slice_index table.basis.items k) (sym e) ∙ g)
    go i (inr l) = h.1 i l

-- after the next row's right side is written, the list holds the basic solution's numbers by one more row
pub basic-written : (table : SparseTable) (m b : ℕ) (at : List Frac) (g : Frac) → HoldsBasic table m at → slice_index table.basis.items m ≡ b → b < length at
    → cell table m (table.columns + table.rows) ≡ Some g → HoldsBasic table (m + 1) (slice_set at b g)
basic-written table m b at g h solved wide is = record {
  length_is = length-set at b g ∙ h.length_is;
  each = λ j f read. go j f read (same_or_other j b);
}
  where
    go : (j : ℕ) (f : Frac) → slice_get (slice_set at b g) j ≡ Some f → (j ≡ b) ⊎ (j ≢ b) → IsBasicNumber table (m + 1) j f
    go j f read (inl e) =
        let here = ap (λ (k : ℕ). slice_get (slice_set at b g) k) e ∙ slice_get-set_same at b g wide in
        let same : g ≡ f = cc in
        inl (m, omega arith, solved ∙ sym e, is ∙ ap Some same)
    go j f read (inr d) = other_number table m j f (λ e. d (sym (sym solved ∙ e))) (h.each j f (sym (slice_get-set_other at b j g d) ∙ read))

-- if the next row isn't solved for a column of the program, the list holds the basic solution's numbers by one more row
pub basic-skipped : (table : SparseTable) (m b : ℕ) (at : List Frac) → HoldsBasic table m at → slice_index table.basis.items m ≡ b → table.columns ≤ b → HoldsBasic table (m + 1) at
basic-skipped table m b at h solved above = record {
  length_is = h.length_is;
  each = λ j f read.
      let within = slice_get_within at j f read in
      let size = h.length_is in
      other_number table m j f (λ e. let g = sym solved ∙ e in omega arith) (h.each j f read);
}

-- the last element of a list is the one that was appended
pub slice_get-last : {X : Type 0} (xs : List X) (x : X) → slice_get (xs ++ (x ∷ [])) (length xs) ≡ Some x
slice_get-last [] x = refl
slice_get-last (y ∷ ys) x = slice_get-last ys x

-- the elements before the last are those of the list before
pub slice_get-before : {X : Type 0} (xs : List X) (x : X) (k : ℕ) → k < length xs → slice_get (xs ++ (x ∷ [])) k ≡ slice_get xs k
slice_get-before [] x k l = absurd (omega arith)
slice_get-before (y ∷ ys) x zero l = refl
slice_get-before (y ∷ ys) x (suc k) l = slice_get-before ys x k (omega arith)

-- after the next row's number is appended, the list holds the dual's numbers of one more row
pub dual-added : (table : SparseTable) (right : List ℤ) (m : ℕ) (dual : List Frac) (y : Frac) → HoldsDual table right m dual
    → ((x : Frac) → cell table table.rows (table.columns + m) ≡ Some x → IsFraction y (sign_of (slice_index_or right m (pos 0)) *ℤ (x.den -ℤ x.num)) x.den)
    → HoldsDual table right (m + 1) (dual ++ (y ∷ []))
dual-added table right m dual y h here = record {
  length_is = let e = h.length_is in omega (arith, e, length-append {A = Frac} dual (y ∷ []));
  each = λ k z x l read is. go k z x (last_or_before m k (omega arith)) read is;
}
  where
    go : (k : ℕ) (z x : Frac) → (k ≡ m) ⊎ (k < m) → slice_get (dual ++ (y ∷ [])) k ≡ Some z → cell table table.rows (table.columns + k) ≡ Some x
        → IsFraction z (sign_of (slice_index_or right k (pos 0)) *ℤ (x.den -ℤ x.num)) x.den
    go k z x (inl e) read is =
        let last = ap (λ (i : ℕ). slice_get (dual ++ (y ∷ [])) i) (e ∙ sym h.length_is) ∙ slice_get-last dual y in
        let same : y ≡ z = cc in
        subst (λ (w : Frac). IsFraction w (sign_of (slice_index_or right k (pos 0)) *ℤ (x.den -ℤ x.num)) x.den) same
        (subst (λ (i : ℕ). IsFraction y (sign_of (slice_index_or right i (pos 0)) *ℤ (x.den -ℤ x.num)) x.den) (sym e)
        (here x (ap (λ (i : ℕ). cell table table.rows (table.columns + i)) (sym e) ∙ is)))
    go k z x (inr l) read is =
        let size = h.length_is in
        h.each k z x l (sym (slice_get-before dual y k (omega arith)) ∙ read) is

-- the negation of 1 less a number, over the number's denominator
pub one_less-negated : (r e n d w v : ℤ) → w ≡ pos 1 → v ≡ pos 1 → r *ℤ (d *ℤ v) ≡ (n *ℤ v -ℤ w *ℤ d) *ℤ e → r *ℤ d ≡ (negsuc 0 *ℤ (d -ℤ n)) *ℤ e
one_less-negated r e n d w v one under h =
    let f = subst (λ (z : ℤ). r *ℤ (d *ℤ z) ≡ (n *ℤ z -ℤ w *ℤ d) *ℤ e) under h in
    let g = subst (λ (z : ℤ). r *ℤ (d *ℤ pos 1) ≡ (n *ℤ pos 1 -ℤ z *ℤ d) *ℤ e) one f in
    identity_by_one (r ∷ e ∷ n ∷ d ∷ []) (variable 0 ⊗ variable 3) ((constant (negsuc 0) ⊗ (variable 3 ⊖ variable 2)) ⊗ variable 1)
    (constant (pos 1)) (variable 0 ⊗ (variable 3 ⊗ constant (pos 1))) ((variable 2 ⊗ constant (pos 1) ⊖ constant (pos 1) ⊗ variable 3) ⊗ variable 1) g refl

-- 1 less a number, over the number's denominator
pub one_less-plain : (r e n d w v : ℤ) → w ≡ pos 1 → v ≡ pos 1 → r *ℤ (v *ℤ d) ≡ (w *ℤ d -ℤ n *ℤ v) *ℤ e → r *ℤ d ≡ (pos 1 *ℤ (d -ℤ n)) *ℤ e
one_less-plain r e n d w v one under h =
    let f = subst (λ (z : ℤ). r *ℤ (z *ℤ d) ≡ (w *ℤ d -ℤ n *ℤ z) *ℤ e) under h in
    let g = subst (λ (z : ℤ). r *ℤ (pos 1 *ℤ d) ≡ (z *ℤ d -ℤ n *ℤ pos 1) *ℤ e) one f in
    identity_by_one (r ∷ e ∷ n ∷ d ∷ []) (variable 0 ⊗ variable 3) ((constant (pos 1) ⊗ (variable 3 ⊖ variable 2)) ⊗ variable 1)
    (constant (pos 1)) (variable 0 ⊗ (constant (pos 1) ⊗ variable 3)) ((constant (pos 1) ⊗ variable 3 ⊖ variable 2 ⊗ constant (pos 1)) ⊗ variable 1) g refl
