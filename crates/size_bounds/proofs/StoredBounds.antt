-- Elements at a position of a list.
use Rattle.std.proofs.Common.{◌≡◌, ℕ, zero, suc, ◌-◌, ◌<◌, ◌≤◌, List, [], ◌∷◌, length, map, get_or, Vec, Option, None}
use Rattle.std.proofs.Common.{refl, sym, ap, ◌∙◌, arith}
use Rattle.std.specs.declared.alloc.Global.{Global}
use Rattle.outcome.specs.declared.entry.Stored.{Stored}
use Rattle.size_bounds.specs.declared.table.Table.{Table}
use Rattle.size_bounds.specs.Tables.{entry_at, row_at, stored_size}

-- the entry that is read at a position
pub entry_read : {A : Type 0} (xs : List (Option A)) (i : ℕ) (x : Option A) → i < length xs → x ≡ get_or xs i x
    → entry_at xs i ≡ x
entry_read [] i x l e = absurd (omega (arith, l))
entry_read (o ∷ os) zero x l e = sym e
entry_read (o ∷ os) (suc i) x l e = entry_read os i x (omega (arith, l)) e

-- past the end there is nothing
pub entry_past : {A : Type 0} (xs : List (Option A)) (i : ℕ) → length xs ≤ i → entry_at xs i ≡ None
entry_past [] i l = refl
entry_past (o ∷ os) zero l = absurd (omega (arith, l))
entry_past (o ∷ os) (suc i) l = entry_past os i (omega (arith, l))

-- the row that is read at a position, and past the end none
pub row_read : {A : Type 0} (rows : List (Vec A Global)) (i : ℕ) (r : Vec A Global) → i < length rows → r ≡ get_or rows i r
    → row_at (map (λ (row : Vec A Global). row.items) rows) i ≡ r.items
row_read [] i r l e = absurd (omega (arith, l))
row_read {A = A} (q ∷ rows) zero r l e = ap (λ (v : Vec A Global). v.items) (sym e)
row_read (q ∷ rows) (suc i) r l e = row_read rows i r (omega (arith, l)) e

-- past the last row there is an empty one
pub row_past : {A : Type 0} (rows : List (Vec A Global)) (i : ℕ) → length rows ≤ i
    → row_at (map (λ (row : Vec A Global). row.items) rows) i ≡ []
row_past [] i l = refl
row_past (q ∷ rows) zero l = absurd (omega (arith, l))
row_past (q ∷ rows) (suc i) l = row_past rows i (omega (arith, l))

-- the size that is read at a place after a rule
pub size_read : (tab : Table) (t i : ℕ) (row : Vec (Option Stored) Global) → ¬ (i ≡ 0) → t < length tab.sizes.items
    → row ≡ get_or tab.sizes.items t row → stored_size tab t i ≡ entry_at row.items (i - 1)
size_read tab t zero row n l e = absurd (n refl)
size_read tab t (suc i) row n l e =
    ap (λ (os : List (Option Stored)). entry_at os i) (row_read tab.sizes.items t row l e)
    ∙ ap (entry_at row.items) (let z : i ≡ suc i - 1 = omega arith in z)

-- past the last row no size is stored
pub size_past : (tab : Table) (t i : ℕ) → length tab.sizes.items ≤ t → stored_size tab t i ≡ None
size_past tab t zero l = refl
size_past tab t (suc i) l = ap (λ (os : List (Option Stored)). entry_at os i) (row_past tab.sizes.items t l)
