-- Entries of a row by their index.
use Rattle.std.proofs.Common.{◌≡◌, ℕ, ◌<◌, ap, refl, ◌⊎◌, inl, inr, Some, None, Option}
use Rattle.std.specs.Prelude.{List, slice_get}
use Rattle.frac128.specs.declared.frac.Frac.{Frac}
use Rattle.frac128.specs.Zero.{zero}
use Rattle.sparse_merge.specs.Listing.{listed}
use Rattle.sparse_merge.proofs.Indices.{listed-index, index-of, index-order}
use Rattle.sparse_rows.specs.Entries.{fraction_of}
use Rattle.sparse_rows.specs.Rows.{column_of, fraction_at, IsRow}

-- the row has the entry of an index at the entry's column
pub entry-at : (row : List (ℕ × Frac)) (k : ℕ) (x : ℕ × Frac) → IsRow row → slice_get row k ≡ Some x → fraction_at row x.0 ≡ x.1
entry-at row k x is at = ap fraction_of (listed-index column_of (λ _. Unit {0}) 0 row k x is.ascends.ascends at)

-- at each column a row has an entry, or is 0
pub entry-or_zero : (row : List (ℕ × Frac)) (j : ℕ)
    → ((k : ℕ) × (x : ℕ × Frac) × (slice_get row k ≡ Some x) × (x.0 ≡ j) × (fraction_at row j ≡ x.1)) ⊎ (fraction_at row j ≡ zero)
entry-or_zero row j = go (listed column_of row j) refl
  where
    go : (o : Option (ℕ × Frac)) → listed column_of row j ≡ o
        → ((k : ℕ) × (x : ℕ × Frac) × (slice_get row k ≡ Some x) × (x.0 ≡ j) × (fraction_at row j ≡ x.1)) ⊎ (fraction_at row j ≡ zero)
    go None e = inr (ap fraction_of e)
    go (Some x) e = let found = index-of column_of row j x e in inl (found.0, x, found.1, found.2, ap fraction_of e)

-- of two entries, the one with the lesser index has the lesser column
pub entry-order : (row : List (ℕ × Frac)) (k l : ℕ) (x y : ℕ × Frac) → IsRow row → slice_get row k ≡ Some x → slice_get row l ≡ Some y
    → k < l → x.0 < y.0
entry-order row k l x y is at_k at_l less = index-order column_of (λ _. Unit {0}) 0 row k l x y is.ascends.ascends at_k at_l less
