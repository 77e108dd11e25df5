-- A table of integers while it is being filled.
use Rattle.std.proofs.Common.{◌≡◌, ◌≢◌, ℕ, zero, suc, ◌+◌, ◌-◌, ◌<◌, ◌≤◌, ap, arith, refl, sym, ◌∙◌, ◌⊎◌, inl, inr}
use Rattle.std.proofs.Common.{List, [], ◌∷◌, ◌++◌, take, Some, Bool, true, false, add-one}
use Rattle.std.specs.Prelude.{ℤ, pos, ◌*ℤ◌, slice_get, slice_index_or, nat_eq, nat_lt, ◌&&◌, if◌then◌else◌}
use Rattle.std.proofs.lemmas.Bool.{eqb-true, eq-eqb}
use Rattle.frac128.specs.declared.frac.Frac.{Frac}
use Rattle.simplex_core.specs.declared.sparse_table.SparseTable.{SparseTable}
use Rattle.simplex_core.specs.declared.problem.Entry.{Entry}
use Rattle.simplex_core.specs.Tableau.{sign_of}
use Rattle.simplex_core.specs.Problem.{entry_value}
use Rattle.simplex_core.specs.Cells.{width, cell}
use Rattle.simplex_core.specs.Building.{HoldsWhole, WritesWhole, signed_entries, with_equations, cost_number}
use Rattle.simplex_core.specs.Building.{with_costs, IsZeroAt}
use Rattle.int_laws.proofs.RingLaws.{mul-zero_ℤ}
use Rattle.simplex_core.specs.Numbers.{AreInCells}
use Rattle.std.proofs.lemmas.Bool.{cases_lt}
use Rattle.simplex_core.proofs.Invariant.{same_or_other}
use Rattle.simplex_core.proofs.Regions.{choose-below, choose-above, choose-same, choose-other}

-- the table has the new integers after one more is written, if they agree at the positions of the table
pub HoldsWhole-written_within : (a b : SparseTable) (r c : ℕ) (z : ℤ) (g h : ℕ → ℕ → ℤ) → HoldsWhole a g → WritesWhole a b r c z → h r c ≡ z
    → ((i j : ℕ) → i < a.rows + 3 → (i ≡ r → j ≡ c → ⊥) → h i j ≡ g i j) → HoldsWhole b h
HoldsWhole-written_within a b r c z g h holds writes here others = record {
  num = λ i j f l m is. num i j f l m is (same_or_other i r) (same_or_other j c);
  den = λ i j f l m is. den i j f l m is (same_or_other i r) (same_or_other j c);
}
  where
    before : (i j : ℕ) (f : Frac) → (i ≡ r → j ≡ c → ⊥) → j < width b → cell b i j ≡ Some f → cell a i j ≡ Some f
    before i j f apart m is =
        let rows = writes.changes.rows in
        let columns = writes.changes.columns in
        sym (writes.changes.others i j (omega arith) apart) ∙ is

    old_row : (i : ℕ) → i < b.rows + 3 → i < a.rows + 3
    old_row i l = let rows = writes.changes.rows in omega arith

    old_column : (j : ℕ) → j < width b → j < width a
    old_column j m = let rows = writes.changes.rows in let columns = writes.changes.columns in omega arith

    num : (i j : ℕ) (f : Frac) → i < b.rows + 3 → j < width b → cell b i j ≡ Some f → (i ≡ r) ⊎ (i ≢ r) → (j ≡ c) ⊎ (j ≢ c) → f.num ≡ h i j
    num i j f l m is (inl e) (inl k) =
        writes.num f (ap (λ (n : ℕ). cell b n c) (sym e) ∙ (ap (λ (n : ℕ). cell b i n) (sym k) ∙ is))
        ∙ (sym here ∙ (ap (λ (n : ℕ). h n c) (sym e) ∙ ap (λ (n : ℕ). h i n) (sym k)))
    num i j f l m is (inl e) (inr d) = holds.num i j f (old_row i l) (old_column j m) (before i j f (λ _ k. d k) m is) ∙ sym (others i j (old_row i l) (λ _ k. d k))
    num i j f l m is (inr d) w = holds.num i j f (old_row i l) (old_column j m) (before i j f (λ e _. d e) m is) ∙ sym (others i j (old_row i l) (λ e _. d e))

    den : (i j : ℕ) (f : Frac) → i < b.rows + 3 → j < width b → cell b i j ≡ Some f → (i ≡ r) ⊎ (i ≢ r) → (j ≡ c) ⊎ (j ≢ c) → f.den ≡ pos 1
    den i j f l m is (inl e) (inl k) = writes.den f (ap (λ (n : ℕ). cell b n c) (sym e) ∙ (ap (λ (n : ℕ). cell b i n) (sym k) ∙ is))
    den i j f l m is (inl e) (inr d) = holds.den i j f (old_row i l) (old_column j m) (before i j f (λ _ k. d k) m is)
    den i j f l m is (inr d) w = holds.den i j f (old_row i l) (old_column j m) (before i j f (λ e _. d e) m is)

-- the table has the new integers after one more is written, if they agree everywhere
pub HoldsWhole-written : (a b : SparseTable) (r c : ℕ) (z : ℤ) (g h : ℕ → ℕ → ℤ) → HoldsWhole a g → WritesWhole a b r c z → h r c ≡ z
    → ((i j : ℕ) → (i ≡ r → j ≡ c → ⊥) → h i j ≡ g i j) → HoldsWhole b h
HoldsWhole-written a b r c z g h holds writes here others =
    HoldsWhole-written_within a b r c z g h holds writes here (λ i j _ apart. others i j apart)

-- the test of an entry's cell passes at its row and column
pub at_cell : (e : Entry) (i j : ℕ) → e.row ≡ i → e.col ≡ j → (nat_eq e.row i && nat_eq e.col j) ≡ true
at_cell e i j r c = ap (λ (b : Bool). b && nat_eq e.col j) (eq-eqb e.row i r) ∙ eq-eqb e.col j c

-- the test of an entry's cell fails at other positions
pub off_cell : (e : Entry) (i j : ℕ) → (e.row ≡ i → e.col ≡ j → ⊥) → (nat_eq e.row i && nat_eq e.col j) ≡ false
off_cell e i j apart = go (nat_eq e.row i) (nat_eq e.col j) refl refl
  where
    go : (a b : Bool) → nat_eq e.row i ≡ a → nat_eq e.col j ≡ b → (a && b) ≡ false
    go true true x y = absurd (apart (eqb-true e.row i x) (eqb-true e.col j y))
    go true false x y = refl
    go false b x y = refl

-- the number of a cell without an entry is 0
pub entry_value-absent : (es : List Entry) (i j : ℕ) → ((k : ℕ) (d : Entry) → slice_get es k ≡ Some d → d.row ≡ i → d.col ≡ j → ⊥)
    → entry_value es i j ≡ pos 0
entry_value-absent [] i j none = refl
entry_value-absent (d ∷ es) i j none =
    ap (λ (b : Bool). if b then d.value else entry_value es i j) (off_cell d i j (none 0 d refl))
    ∙ entry_value-absent es i j (λ k x is. none (suc k) x is)

-- appending an entry in another cell doesn't change a cell's number
pub entry_value-other : (es : List Entry) (e : Entry) (i j : ℕ) → (e.row ≡ i → e.col ≡ j → ⊥) → entry_value (es ++ (e ∷ [])) i j ≡ entry_value es i j
entry_value-other [] e i j apart = ap (λ (b : Bool). if b then e.value else pos 0) (off_cell e i j apart)
entry_value-other (d ∷ es) e i j apart = ap (λ (z : ℤ). if nat_eq d.row i && nat_eq d.col j then d.value else z) (entry_value-other es e i j apart)

-- appending the first entry of a cell gives the cell its number
pub entry_value-new : (es : List Entry) (e : Entry) (i j : ℕ) → e.row ≡ i → e.col ≡ j
    → ((k : ℕ) (d : Entry) → slice_get es k ≡ Some d → d.row ≡ i → d.col ≡ j → ⊥) → entry_value (es ++ (e ∷ [])) i j ≡ e.value
entry_value-new [] e i j r c none = ap (λ (b : Bool). if b then e.value else pos 0) (at_cell e i j r c)
entry_value-new (d ∷ es) e i j r c none =
    ap (λ (b : Bool). if b then d.value else entry_value (es ++ (e ∷ [])) i j) (off_cell d i j (none 0 d refl))
    ∙ entry_value-new es e i j r c (λ k x is. none (suc k) x is)

-- a cell outside the program's rows and columns has no entry
pub entry_value-outside : (rows columns : ℕ) (es : List Entry) (i j : ℕ) → ((k : ℕ) (e : Entry) → slice_get es k ≡ Some e → (e.row < rows) × (e.col < columns))
    → (rows ≤ i) ⊎ (columns ≤ j) → entry_value es i j ≡ pos 0
entry_value-outside rows columns [] i j inside out = refl
entry_value-outside rows columns (e ∷ es) i j inside out =
    ap (λ (b : Bool). if b then e.value else entry_value es i j) (off_cell e i j (λ r c. clash r c (inside 0 e refl) out))
    ∙ entry_value-outside rows columns es i j (λ k x is. inside (suc k) x is) out
  where
    clash : e.row ≡ i → e.col ≡ j → (e.row < rows) × (e.col < columns) → (rows ≤ i) ⊎ (columns ≤ j) → ⊥
    clash r c h (inl l) = omega arith
    clash r c h (inr l) = omega arith

-- the first k + 1 elements of a list are the first k and one more
pub take-next : {X : Type 0} (xs : List X) (k : ℕ) (x : X) → slice_get xs k ≡ Some x → take (suc k) xs ≡ take k xs ++ (x ∷ [])
take-next [] k x h = cc
take-next (y ∷ ys) zero x h = let e : y ≡ x = cc in ap (λ z. z ∷ []) e
take-next (y ∷ ys) (suc k) x h = ap (λ zs. y ∷ zs) (take-next ys k x h)

-- an element of the first m is an element of the list
pub slice_get-take : {X : Type 0} (xs : List X) (m k : ℕ) (x : X) → slice_get (take m xs) k ≡ Some x → (k < m) × (slice_get xs k ≡ Some x)
slice_get-take [] zero k x h = cc
slice_get-take [] (suc m) k x h = cc
slice_get-take (y ∷ ys) zero k x h = cc
slice_get-take (y ∷ ys) (suc m) zero x h = (omega arith, h)
slice_get-take (y ∷ ys) (suc m) (suc k) x h = let r = slice_get-take ys m k x h in (omega (arith, r.0), r.1)

-- the first k + 1 entries are the first k and one more
take-more : (es : List Entry) (k : ℕ) (e : Entry) → slice_get es k ≡ Some e → take (k + 1) es ≡ take k es ++ (e ∷ [])
take-more es k e is = ap (λ (n : ℕ). take n es) (add-one k) ∙ take-next es k e is

-- in an entry's cell the entries before it have the number 0
pub signed-absent : (rows columns k : ℕ) (es : List Entry) (right : List ℤ) (e : Entry) → AreInCells rows columns es → slice_get es k ≡ Some e
    → signed_entries (take k es) right e.row e.col ≡ pos 0
signed-absent rows columns k es right e cells is =
    mul-zero_ℤ (sign_of (slice_index_or right e.row (pos 0))) (entry_value (take k es) e.row e.col)
    (entry_value-absent (take k es) e.row e.col (λ m d read r c. let within = slice_get-take es k m d read in cells.once m k d e within.0 within.1 is r c))

-- in an entry's cell the entries up to it have its number, with its row's sign
pub signed-new : (rows columns k : ℕ) (es : List Entry) (right : List ℤ) (e : Entry) → AreInCells rows columns es → slice_get es k ≡ Some e
    → signed_entries (take (k + 1) es) right e.row e.col ≡ sign_of (slice_index_or right e.row (pos 0)) *ℤ e.value
signed-new rows columns k es right e cells is =
    ap (λ (xs : List Entry). sign_of (slice_index_or right e.row (pos 0)) *ℤ entry_value xs e.row e.col) (take-more es k e is)
    ∙ ap (λ (z : ℤ). sign_of (slice_index_or right e.row (pos 0)) *ℤ z)
    (entry_value-new (take k es) e e.row e.col refl refl (λ m d at r c. let within = slice_get-take es k m d at in cells.once m k d e within.0 within.1 is r c))

-- in another cell the entries up to one have the same number as those before it
pub signed-other : (k : ℕ) (es : List Entry) (right : List ℤ) (e : Entry) (i j : ℕ) → slice_get es k ≡ Some e → (e.row ≡ i → e.col ≡ j → ⊥)
    → signed_entries (take (k + 1) es) right i j ≡ signed_entries (take k es) right i j
signed-other k es right e i j is apart =
    ap (λ (xs : List Entry). sign_of (slice_index_or right i (pos 0)) *ℤ entry_value xs i j) (take-more es k e is)
    ∙ ap (λ (z : ℤ). sign_of (slice_index_or right i (pos 0)) *ℤ z) (entry_value-other (take k es) e i j apart)

-- the number of an entry's cell is 0 before it is written
pub entries-zero : (rows columns : ℕ) (a : SparseTable) (es : List Entry) (right : List ℤ) (k : ℕ) (e : Entry) → AreInCells rows columns es → slice_get es k ≡ Some e
    → HoldsWhole a (signed_entries (take k es) right) → e.row < a.rows + 3 → e.col < width a → IsZeroAt a e.row e.col
entries-zero rows columns a es right k e cells is holds row col = record {
  each = λ f at. holds.num e.row e.col f row col at ∙ signed-absent rows columns k es right e cells is;
}

-- one more entry is written
pub entries-step : (rows columns : ℕ) (a b : SparseTable) (es : List Entry) (right : List ℤ) (k : ℕ) (e : Entry) → AreInCells rows columns es → slice_get es k ≡ Some e
    → HoldsWhole a (signed_entries (take k es) right) → WritesWhole a b e.row e.col (sign_of (slice_index_or right e.row (pos 0)) *ℤ e.value)
    → HoldsWhole b (signed_entries (take (k + 1) es) right)
entries-step rows columns a b es right k e cells is holds writes =
    HoldsWhole-written a b e.row e.col _ (signed_entries (take k es) right) (signed_entries (take (k + 1) es) right) holds writes
    (signed-new rows columns k es right e cells is)
    (λ i j apart. signed-other k es right e i j is (λ r c. apart (sym r) (sym c)))

-- the numbers g, with z written at one position
abbrev with_number : ℕ → ℕ → ℤ → (ℕ → ℕ → ℤ) → ℕ → ℕ → ℤ
with_number r c z g i j = if nat_eq i r && nat_eq j c then z else g i j

-- the number at the written position is z
with_number-here : (r c : ℕ) (z : ℤ) (g : ℕ → ℕ → ℤ) → with_number r c z g r c ≡ z
with_number-here r c z g =
    ap (λ (b : Bool). if b then z else g r c) (ap (λ (b : Bool). b && nat_eq c c) (eq-eqb r r refl) ∙ eq-eqb c c refl)

-- the numbers at other positions are unchanged
with_number-other : (r c : ℕ) (z : ℤ) (g : ℕ → ℕ → ℤ) (i j : ℕ) → (i ≡ r → j ≡ c → ⊥) → with_number r c z g i j ≡ g i j
with_number-other r c z g i j apart = ap (λ (b : Bool). if b then z else g i j) (go (nat_eq i r) (nat_eq j c) refl refl)
  where
    go : (a b : Bool) → nat_eq i r ≡ a → nat_eq j c ≡ b → (a && b) ≡ false
    go true true x y = absurd (apart (eqb-true i r x) (eqb-true j c y))
    go true false x y = refl
    go false b x y = refl

-- after one more row's artificial unknown and right side are written
pub equations-step : (m n : ℕ) (right : List ℤ) (g : ℕ → ℕ → ℤ) (k : ℕ) (a b d : SparseTable) → k < m
    → HoldsWhole a (with_equations m n right g k) → WritesWhole a b k (n + k) (pos 1)
    → WritesWhole b d k (n + m) (sign_of (slice_index_or right k (pos 0)) *ℤ slice_index_or right k (pos 0))
    → HoldsWhole d (with_equations m n right g (k + 1))
equations-step m n right g k a b d l holds first second =
    HoldsWhole-written b d k (n + m) side one after
    (HoldsWhole-written a b k (n + k) (pos 1) before one holds first (with_number-here k (n + k) (pos 1) before) (with_number-other k (n + k) (pos 1) before))
    second here others
  where
    side : ℤ
    side = sign_of (slice_index_or right k (pos 0)) *ℤ slice_index_or right k (pos 0)

    before : ℕ → ℕ → ℤ
    before = with_equations m n right g k

    one : ℕ → ℕ → ℤ
    one = with_number k (n + k) (pos 1) before

    after : ℕ → ℕ → ℤ
    after = with_equations m n right g (k + 1)

    inner : ℕ → ℕ → ℤ
    inner i j = if nat_eq j (n + i) then pos 1
        else if nat_eq j (n + m) then sign_of (slice_index_or right i (pos 0)) *ℤ slice_index_or right i (pos 0)
        else g i j

    here : after k (n + m) ≡ side
    here = choose-below k (k + 1) (inner k (n + m)) (g k (n + m)) (omega arith)
        ∙ (choose-other (n + m) (n + k) (pos 1) _ (omega arith) ∙ choose-same (n + m) (n + m) side (g k (n + m)) refl)

    others : (i j : ℕ) → (i ≡ k → j ≡ n + m → ⊥) → after i j ≡ one i j
    others i j apart = go (cases_lt i k) (same_or_other i k) (same_or_other j (n + k))
      where
        go : (i < k) ⊎ (k ≤ i) → (i ≡ k) ⊎ (i ≢ k) → (j ≡ n + k) ⊎ (j ≢ n + k) → after i j ≡ one i j
        go (inl f) w v =
            choose-below i (k + 1) (inner i j) (g i j) (omega arith)
            ∙ (sym (choose-below i k (inner i j) (g i j) f) ∙ sym (with_number-other k (n + k) (pos 1) before i j (λ e _. omega arith)))
        go (inr f) (inl e) (inl s) =
            choose-below i (k + 1) (inner i j) (g i j) (omega arith)
            ∙ (choose-same j (n + i) (pos 1) _ (omega arith)
            ∙ sym (ap (λ (x : ℕ). one x j) e ∙ (ap (λ (y : ℕ). one k y) s ∙ with_number-here k (n + k) (pos 1) before)))
        go (inr f) (inl e) (inr s) =
            choose-below i (k + 1) (inner i j) (g i j) (omega arith)
            ∙ (choose-other j (n + i) (pos 1) _ (omega arith)
            ∙ (choose-other j (n + m) _ (g i j) (λ t. apart e t)
            ∙ (sym (choose-above i k (inner i j) (g i j) f) ∙ sym (with_number-other k (n + k) (pos 1) before i j (λ _ t. s t)))))
        go (inr f) (inr d) v =
            choose-above i (k + 1) (inner i j) (g i j) (omega arith)
            ∙ (sym (choose-above i k (inner i j) (g i j) f) ∙ sym (with_number-other k (n + k) (pos 1) before i j (λ e _. d e)))

-- after one more column of the cost rows is written
pub costs-step : (m : ℕ) (g : ℕ → ℕ → ℤ) (f s : List ℤ) (k : ℕ) (a b d e : SparseTable) → a.rows ≡ m → b.rows ≡ m → d.rows ≡ m
    → HoldsWhole a (with_costs m g f s k)
    → WritesWhole a b m k (cost_number m g f s 0 k) → WritesWhole b d (m + 1) k (cost_number m g f s 1 k) → WritesWhole d e (m + 2) k (cost_number m g f s 2 k)
    → HoldsWhole e (with_costs m g f s (k + 1))
costs-step m g f s k a b d e ra rb rd holds first second third =
    HoldsWhole-written_within d e (m + 2) k (cost_number m g f s 2 k) two after
    (HoldsWhole-written b d (m + 1) k (cost_number m g f s 1 k) one two
    (HoldsWhole-written a b m k (cost_number m g f s 0 k) before one holds first (with_number-here m k (cost_number m g f s 0 k) before) (with_number-other m k (cost_number m g f s 0 k) before))
    second (with_number-here (m + 1) k (cost_number m g f s 1 k) one) (with_number-other (m + 1) k (cost_number m g f s 1 k) one))
    third (at_cost 2 (m + 2) refl (omega arith)) others
  where
    before : ℕ → ℕ → ℤ
    before = with_costs m g f s k

    one : ℕ → ℕ → ℤ
    one = with_number m k (cost_number m g f s 0 k) before

    two : ℕ → ℕ → ℤ
    two = with_number (m + 1) k (cost_number m g f s 1 k) one

    after : ℕ → ℕ → ℤ
    after = with_costs m g f s (k + 1)

    at_cost : (q i : ℕ) → i ≡ m + q → m ≤ i → after i k ≡ cost_number m g f s q k
    at_cost q i e l =
        choose-above i m (g i k) (if nat_lt k (k + 1) then cost_number m g f s (i - m) k else g i k) l
        ∙ (choose-below k (k + 1) (cost_number m g f s (i - m) k) (g i k) (omega arith)
        ∙ ap (λ (n : ℕ). cost_number m g f s n k) (omega arith))

    beyond : (i j : ℕ) → j ≢ k → after i j ≡ before i j
    beyond i j apart = go (cases_lt i m) (cases_lt j k)
      where
        go : (i < m) ⊎ (m ≤ i) → (j < k) ⊎ (k ≤ j) → after i j ≡ before i j
        go (inl l) w = choose-below i m (g i j) _ l ∙ sym (choose-below i m (g i j) _ l)
        go (inr l) (inl w) =
            choose-above i m (g i j) _ l ∙ (choose-below j (k + 1) (cost_number m g f s (i - m) j) (g i j) (omega arith)
            ∙ sym (choose-above i m (g i j) _ l ∙ choose-below j k (cost_number m g f s (i - m) j) (g i j) w))
        go (inr l) (inr w) =
            choose-above i m (g i j) _ l ∙ (choose-above j (k + 1) (cost_number m g f s (i - m) j) (g i j) (omega arith)
            ∙ sym (choose-above i m (g i j) _ l ∙ choose-above j k (cost_number m g f s (i - m) j) (g i j) w))

    above : (i : ℕ) → i < m → after i k ≡ before i k
    above i l = choose-below i m (g i k) _ l ∙ sym (choose-below i m (g i k) _ l)

    others : (i j : ℕ) → i < d.rows + 3 → (i ≡ m + 2 → j ≡ k → ⊥) → after i j ≡ two i j
    others i j l apart = go (same_or_other j k) (cases_lt i m) (same_or_other i m) (same_or_other i (m + 1))
      where
        plain : (i ≡ m → j ≡ k → ⊥) → (i ≡ m + 1 → j ≡ k → ⊥) → two i j ≡ before i j
        plain x y = with_number-other (m + 1) k (cost_number m g f s 1 k) one i j y ∙ with_number-other m k (cost_number m g f s 0 k) before i j x

        go : (j ≡ k) ⊎ (j ≢ k) → (i < m) ⊎ (m ≤ i) → (i ≡ m) ⊎ (i ≢ m) → (i ≡ m + 1) ⊎ (i ≢ m + 1) → after i j ≡ two i j
        go (inr n) u v w = beyond i j n ∙ sym (plain (λ _ x. n x) (λ _ x. n x))
        go (inl x) (inl u) v w = ap (λ (y : ℕ). after i y) x ∙ (above i u ∙ (ap (λ (y : ℕ). before i y) (sym x) ∙ sym (plain (λ y _. omega arith) (λ y _. omega arith))))
        go (inl x) (inr u) (inl v) w =
            ap (λ (y : ℕ). after i y) x ∙ (at_cost 0 i (omega arith) u
            ∙ sym (with_number-other (m + 1) k (cost_number m g f s 1 k) one i j (λ y _. omega arith)
            ∙ (ap (λ (y : ℕ). one y j) v ∙ (ap (λ (y : ℕ). one m y) x ∙ with_number-here m k (cost_number m g f s 0 k) before))))
        go (inl x) (inr u) (inr v) (inl w) =
            ap (λ (y : ℕ). after i y) x ∙ (at_cost 1 i w u
            ∙ sym (ap (λ (y : ℕ). two y j) w ∙ (ap (λ (y : ℕ). two (m + 1) y) x ∙ with_number-here (m + 1) k (cost_number m g f s 1 k) one)))
        go (inl x) (inr u) (inr v) (inr w) = absurd (apart (omega arith) x)
