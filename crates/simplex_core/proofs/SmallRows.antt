-- Which rows of a table are known to be small while a pivot is made.
use Rattle.std.proofs.Common.{◌≡◌, ◌≢◌, ℕ, ◌+◌, ◌<◌, ap, arith, sym, ◌∙◌, subst, ◌⊎◌, inl, inr, Bool, true}
use Rattle.std.proofs.Common.{false, List, Some}
use Rattle.std.specs.Prelude.{MatchBool, ◌&&◌, slice_get, nat_eq, if◌then◌else◌}
use Rattle.frac128.specs.declared.frac.Frac.{Frac}
use Rattle.simplex_core.specs.declared.sparse_table.SparseTable.{SparseTable}
use Rattle.simplex_core.specs.Sizes.{IsBelow}
use Rattle.simplex_core.specs.Positions.{InTable}
use Rattle.simplex_core.specs.Cells.{cell, ChangesRow, IsRowBelow, AreSmall, HasLarge, HasLargeIn}
use Rattle.simplex_core.specs.Cells.{HasLargeBut, AreSmallBut, entry_of}
use Rattle.simplex_core.proofs.CellLaws.{InTable-same, IsRowBelow-same}
use Rattle.simplex_core.proofs.Invariant.{same_or_other}

-- a large number of a row is one of the table
large-in : (a : SparseTable) (r : ℕ) → HasLargeIn a r → HasLarge a
large-in a r h = record { row = r; column = h.column; number = h.number; in_table = h.in_table; is = h.is; large = h.large }

-- a large number of another row is one of the table
pub large-but : (a : SparseTable) (r m : ℕ) → HasLargeBut a r m → HasLarge a
large-but a r m h = large-in a h.row h.large

-- if the other rows are small, this row decides whether all are
pub small-all : (a : SparseTable) (r : ℕ) (v : Bool) → AreSmallBut a r (a.rows + 3) → MatchBool v (IsRowBelow 31 a r) (HasLargeIn a r) → MatchBool v (AreSmall a) (HasLarge a)
small-all a r false others large = large-in a r large
small-all a r true others small = record { each = λ i j f inside is. go i j f inside is (same_or_other i r) }
  where
    go : (i j : ℕ) (f : Frac) → InTable a.rows a.columns i j → cell a i j ≡ Some f → (i ≡ r) ⊎ (i ≢ r) → IsBelow 31 f
    go i j f inside is (inl e) = (subst (λ (k : ℕ). IsRowBelow 31 a k) (sym e) small).each j f inside is
    go i j f inside is (inr d) = (others.each i d inside.row).each j f inside is

-- equal numbers are equally small
pub small-same : (a b : SparseTable) (v : Bool) → b.lines.items ≡ a.lines.items → b.right.items ≡ a.right.items → b.rows ≡ a.rows → b.columns ≡ a.columns
    → MatchBool v (AreSmall a) (HasLarge a) → MatchBool v (AreSmall b) (HasLarge b)
small-same a b v n s r c h = go v h
  where
    cells : (i j : ℕ) → cell b i j ≡ cell a i j
    cells i j =
        ap (λ (xs : List (List (ℕ × Frac))). if nat_eq j (b.columns + b.rows) then slice_get b.right.items i else entry_of (slice_get xs i) j) n
        ∙ (ap (λ (xs : List Frac). if nat_eq j (b.columns + b.rows) then slice_get xs i else entry_of (slice_get a.lines.items i) j) s
        ∙ (ap (λ (k : ℕ). if nat_eq j (b.columns + k) then slice_get a.right.items i else entry_of (slice_get a.lines.items i) j) r
        ∙ ap (λ (k : ℕ). if nat_eq j (k + a.rows) then slice_get a.right.items i else entry_of (slice_get a.lines.items i) j) c))

    go : (v : Bool) → MatchBool v (AreSmall a) (HasLarge a) → MatchBool v (AreSmall b) (HasLarge b)
    go true h = record { each = λ i j f inside is. h.each i j f (InTable-same b.rows b.columns a.rows a.columns i j r c inside) (sym (cells i j) ∙ is) }
    go false h = record {
      row = h.row;
      column = h.column;
      number = h.number;
      in_table = InTable-same a.rows a.columns b.rows b.columns h.row h.column (sym r) (sym c) h.in_table;
      is = cells h.row h.column ∙ h.is;
      large = h.large;
    }

-- after one more row is tested
pub small-step : (b d : SparseTable) (r n : ℕ) (x s : Bool) → ChangesRow b d n → MatchBool x (n ≢ r → IsRowBelow 31 d n) ((n ≢ r) × HasLargeIn d n)
    → MatchBool s (AreSmallBut b r n) (HasLargeBut b r n) → MatchBool (x && s) (AreSmallBut d r (n + 1)) (HasLargeBut d r (n + 1))
small-step b d r n false s changes tested before = record { row = n; within = omega arith; apart = tested.0; large = tested.1 }
small-step b d r n true false changes tested before = record {
  row = before.row;
  within = let l = before.within in omega arith;
  apart = before.apart;
  large = record {
    column = before.large.column;
    number = before.large.number;
    in_table = InTable-same b.rows b.columns d.rows d.columns before.row before.large.column (sym changes.rows) (sym changes.columns) before.large.in_table;
    is = changes.others before.row before.large.column (λ e. let l = before.within in omega arith) before.large.in_table.column ∙ before.large.is;
    large = before.large.large;
  };
}
small-step b d r n true true changes tested before = record { each = λ i apart l. go i apart l (same_or_other i n) }
  where
    go : (i : ℕ) → i ≢ r → i < n + 1 → (i ≡ n) ⊎ (i ≢ n) → IsRowBelow 31 d i
    go i apart l (inl e) = subst (λ (k : ℕ). IsRowBelow 31 d k) (sym e) (tested (λ f. apart (e ∙ f)))
    go i apart l (inr f) = IsRowBelow-same 31 b d i changes.rows changes.columns (λ j w. changes.others i j f w) (before.each i apart (omega arith))
