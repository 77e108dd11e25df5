-- Putting an entry into a row.
use Rattle.std.proofs.Common.{◌≡◌, ◌≢◌, ◌≤◌, arith, ℕ, ap, refl, sym, ◌∙◌, subst, Option, Some, None, ◌⊎◌, inl, inr}
use Rattle.std.specs.Prelude.{pos, List}
use Rattle.std.specs.List.{insert}
use Rattle.frac128.specs.declared.frac.Frac.{Frac}
use Rattle.frac128.specs.Zero.{zero, zero-num}
use Rattle.frac128.proofs.Identity.{same_zero}
use Rattle.sparse_merge.specs.Listing.{listed, IsAt, LiesAt}
use Rattle.sparse_merge.proofs.Listings.{same_or_other}
use Rattle.sparse_merge.proofs.Indices.{found-is, none-lies}
use Rattle.sparse_merge.proofs.Insertions.{listed-other_insert, listed-insert, insert-listing}
use Rattle.sparse_rows.specs.Entries.{fraction_of}
use Rattle.sparse_rows.specs.Rows.{column_of, fraction_at, IsRow, IsPut}

-- at a column where a row is 0, it has no entry
pub zero-unlisted : (row : List (ℕ × Frac)) (j : ℕ) → IsRow row → fraction_at row j ≡ zero → listed column_of row j ≡ None
zero-unlisted row j is none = go (listed column_of row j) refl
  where
    go : (o : Option (ℕ × Frac)) → listed column_of row j ≡ o → listed column_of row j ≡ None
    go None e = e
    go (Some x) e =
        absurd (is.nonzero j x e (ap (λ (f : Frac). f.num) (sym (ap fraction_of e) ∙ none) ∙ zero-num))

-- a row that is 0 at a column has no entry there
pub zero-absent : (row : List (ℕ × Frac)) (j k : ℕ) → IsRow row → fraction_at row j ≡ zero → IsAt column_of row j k → ⊥
zero-absent row j k is none at =
    let nothing = zero-unlisted row j is none in
    let some = found-is column_of (λ _. Unit {0}) row j k at.cell is.ascends at.is at.place in
    cc

-- after an entry is put into a row, it is still a row
pub put-row : (row : List (ℕ × Frac)) (k j : ℕ) (f : Frac) → IsRow row → LiesAt column_of row j k → f.num ≢ pos 0
    → IsRow (insert row k (j, f))
put-row row k j f is lies apart = record {
  ascends = insert-listing column_of (λ _. Unit {0}) row k (j, f) is.ascends lies tt;
  nonzero = λ i x at. go i x at (same_or_other j i);
}
  where
    go : (i : ℕ) (x : ℕ × Frac) → listed column_of (insert row k (j, f)) i ≡ Some x → (j ≡ i) ⊎ (j ≢ i) → x.1.num ≢ pos 0
    go i x at (inl e) =
        let none = sym (none-lies column_of row i k k (subst (λ (n : ℕ). LiesAt column_of row n k) e lies) (le k)) in
        let same : Some (j, f) ≡ Some x = sym (listed-insert column_of row k (j, f) i lies.within e none) ∙ at in
        let one : (j, f) ≡ x = cc in
        subst (λ (y : ℕ × Frac). y.1.num ≢ pos 0) one apart
      where
        le : (n : ℕ) → n ≤ n
        le n = omega arith
    go i x at (inr d) = is.nonzero i x (sym (listed-other_insert column_of row k (j, f) i lies.within d) ∙ at)

-- after an entry is put into a row, the row has its fraction at its column, and the other columns are unchanged
pub put-is : (row : List (ℕ × Frac)) (k j : ℕ) (f : Frac) → LiesAt column_of row j k → IsPut row j f (insert row k (j, f))
put-is row k j f lies = record {
  here = ap fraction_of (listed-insert column_of row k (j, f) j lies.within refl (sym (none-lies column_of row j k k lies (le k))));
  others = λ i d. ap fraction_of (listed-other_insert column_of row k (j, f) i lies.within (λ e. d (sym e)));
}
  where
    le : (n : ℕ) → n ≤ n
    le n = omega arith

-- putting 0 into a row that is 0 at the column changes nothing
pub put-zero : (row : List (ℕ × Frac)) (j : ℕ) (f : Frac) → fraction_at row j ≡ zero → f.num ≡ pos 0 → IsPut row j f row
put-zero row j f none e = record { here = none ∙ sym (same_zero f e); others = λ i d. refl }
