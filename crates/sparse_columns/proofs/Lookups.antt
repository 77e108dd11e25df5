-- The number in a row is that of the cell in it, if there is one.
use Rattle.std.proofs.Common.{◌≡◌, ◌≢◌, ℕ, zero, suc, ◌+◌, ◌<◌, ◌≤◌, ap, arith, refl, sym, ◌∙◌, List, [], ◌∷◌, ◌++◌, Some, Bool, true, false, take, drop}
use Rattle.std.specs.Prelude.{ℤ, pos, ◌+ℤ◌, nat_eq, if◌then◌else◌, slice_get, unsigned_abs, ◌^◌}
use Rattle.std.proofs.lemmas.Int.{ints}
use Rattle.std.proofs.Common.{◌⊎◌, inl, inr, get_or}
use Rattle.std.proofs.lemmas.Option.{slice_get_within, slice_get-get_or}
use Rattle.std.proofs.lemmas.Bool.{eqb-true, eq-eqb, cases_lt}
use Rattle.int_laws.specs.NormalForm.{is_zero}
use Rattle.int_laws.proofs.ZeroLaws.{is_zero-true, is_zero-false}
use Rattle.sparse_columns.specs.declared.cell.Cell.{Cell}
use Rattle.sparse_columns.specs.Order.{IsAscending, IsBefore, IsFrom}
use Rattle.sparse_columns.specs.Numbers.{alone, number_of, AreNumbers}

-- Two numbers are equal, or they aren't.
pub same_or_not : (k p : ℕ) → (k ≡ p) ⊎ (k ≢ p)
same_or_not k p = go (nat_eq k p) refl
  where
    go : (b : Bool) → nat_eq k p ≡ b → (k ≡ p) ⊎ (k ≢ p)
    go true e = inl (eqb-true k p e)
    go false e = inr (λ same. let t = eq-eqb k p same in cc)

-- the number in its own row is the number
pub alone-here : (r i : ℕ) (z : ℤ) → r ≡ i → alone r z i ≡ z
alone-here r i z e = ap (λ (b : Bool). if b then z else pos 0) (eq-eqb r i e)

-- the number in each other row is 0
pub alone-other : (r i : ℕ) (z : ℤ) → r ≢ i → alone r z i ≡ pos 0
alone-other r i z d = go (nat_eq r i) refl
  where
    go : (b : Bool) → nat_eq r i ≡ b → (if b then z else pos 0) ≡ pos 0
    go true e = absurd (d (eqb-true r i e))
    go false e = refl

-- putting 0 in a row gives a column of zeros
pub alone-zero : (r : ℕ) (z : ℤ) (i : ℕ) → z ≡ pos 0 → alone r z i ≡ pos 0
alone-zero r z i e = go (nat_eq r i)
  where
    go : (b : Bool) → (if b then z else pos 0) ≡ pos 0
    go true = e
    go false = refl

-- if no cell is in a row, the number there is 0
pub number_of-none : (cs : List Cell) (i : ℕ) → ((k : ℕ) (c : Cell) → slice_get cs k ≡ Some c → c.row ≢ i) → number_of cs i ≡ pos 0
number_of-none [] i none = refl
number_of-none (c ∷ cs) i none =
    let here = alone-other c.row i c.number (none 0 c refl) in
    let others = number_of-none cs i (λ k d is. none (suc k) d is) in
    omega (arith, ints, here, others)

-- the rows after the first cell ascend
pub rest-ascends : (c : Cell) (cs : List Cell) → IsAscending (c ∷ cs) → IsAscending cs
rest-ascends c cs h = record { each = λ k l d e below is_d is_e. h.each (suc k) (suc l) d e (omega arith) is_d is_e }

-- the number in a cell's row is the cell's
pub number_of-at : (cs : List Cell) (k : ℕ) (c : Cell) → IsAscending cs → slice_get cs k ≡ Some c → number_of cs c.row ≡ c.number
number_of-at [] k c h is = cc
number_of-at (d ∷ ds) zero c h is =
    let same : d ≡ c = cc in
    let here = alone-here d.row c.row d.number (ap (λ (x : Cell). x.row) same) in
    let number : d.number ≡ c.number = ap (λ (x : Cell). x.number) same in
    let others = number_of-none ds c.row (λ l e at_e same_row. let below = h.each 0 (suc l) c e (omega arith) is at_e in omega arith) in
    omega (arith, ints, here, others, number)
number_of-at (d ∷ ds) (suc k) c h is =
    let below = h.each 0 (suc k) d c (omega arith) refl is in
    let here = alone-other d.row c.row d.number (λ e. omega arith) in
    let others = number_of-at ds k c (rest-ascends d ds h) is in
    omega (arith, ints, here, others)

-- after a cell is appended, its number is added in its row
pub number_of-append : (cs : List Cell) (c : Cell) (i : ℕ) → number_of (cs ++ (c ∷ [])) i ≡ number_of cs i +ℤ alone c.row c.number i
number_of-append [] c i = omega (arith, ints)
number_of-append (d ∷ ds) c i = let more = number_of-append ds c i in omega (arith, ints, more)

-- if the cells before a position are in rows below i, those from it on in rows from i on, and the one at it isn't in
-- row i, then no cell is in row i
pub number_of-absent : (cs : List Cell) (p i : ℕ) → IsAscending cs → IsBefore cs p i → IsFrom cs p i
    → ((c : Cell) → slice_get cs p ≡ Some c → c.row ≢ i) → number_of cs i ≡ pos 0
number_of-absent cs p i h before from apart = number_of-none cs i (λ k c is. go k c is (cases_lt k p))
  where
    later : (k : ℕ) (c d : Cell) → p < k → slice_get cs k ≡ Some c → slice_get cs p ≡ Some d → c.row ≢ i
    later k c d l is at_p e =
        let least = from.each p d (omega arith) at_p in
        let other = apart d at_p in
        let below = h.each p k d c l at_p is in
        omega arith

    at_or_later : (k : ℕ) (c : Cell) → slice_get cs k ≡ Some c → (k ≡ p) ⊎ (k ≢ p) → p ≤ k → c.row ≢ i
    at_or_later k c is (inl e) l = apart c (ap (λ (n : ℕ). slice_get cs n) (sym e) ∙ is)
    at_or_later k c is (inr d) l =
        let within = slice_get_within cs k c is in
        let there = slice_get-get_or cs p c (omega arith) in
        later k c (get_or cs p c) (omega arith) is there

    go : (k : ℕ) (c : Cell) → slice_get cs k ≡ Some c → (k < p) ⊎ (p ≤ k) → c.row ≢ i
    go k c is (inl l) = let below = before.each k c l is in λ e. omega arith
    go k c is (inr l) = at_or_later k c is (same_or_not k p) l

-- a nonzero number in a row is that of a cell
number_of-cell : (cs : List Cell) (i : ℕ) → number_of cs i ≢ pos 0 → (k : ℕ) × (c : Cell) × (slice_get cs k ≡ Some c) × (c.row ≡ i)
number_of-cell [] i apart = absurd (apart refl)
number_of-cell (c ∷ cs) i apart = go (same_or_not c.row i) (number_of-cell cs i)
  where
    go : (c.row ≡ i) ⊎ (c.row ≢ i) → (number_of cs i ≢ pos 0 → (k : ℕ) × (d : Cell) × (slice_get cs k ≡ Some d) × (d.row ≡ i))
        → (k : ℕ) × (d : Cell) × (slice_get (c ∷ cs) k ≡ Some d) × (d.row ≡ i)
    go (inl e) others = (0, c, refl, e)
    go (inr d) others =
        let here = alone-other c.row i c.number d in
        let rest = others (λ zero. apart (omega (arith, ints, here, zero))) in
        (suc rest.0, rest.1, rest.2, rest.3)

-- the number in a row is that of the cells before a position plus that of those from it on
number_of-split : (cs : List Cell) (p i : ℕ) → number_of cs i ≡ number_of (take p cs) i +ℤ number_of (drop p cs) i
number_of-split [] zero i = refl
number_of-split [] (suc p) i = refl
number_of-split (c ∷ cs) zero i = omega (arith, ints)
number_of-split (c ∷ cs) (suc p) i = let others = number_of-split cs p i in omega (arith, ints, others)

-- a cell from a position on is a cell of the list
slice_get-drop : (cs : List Cell) (p k : ℕ) (c : Cell) → slice_get (drop p cs) k ≡ Some c → slice_get cs (p + k) ≡ Some c
slice_get-drop [] zero k c is = cc
slice_get-drop [] (suc p) k c is = cc
slice_get-drop (d ∷ ds) zero k c is = let e : 0 + k ≡ k = omega arith in ap (λ (n : ℕ). slice_get (d ∷ ds) n) e ∙ is
slice_get-drop (d ∷ ds) (suc p) k c is =
    let e : suc p + k ≡ suc (p + k) = omega arith in
    ap (λ (n : ℕ). slice_get (d ∷ ds) n) e ∙ slice_get-drop ds p k c is

-- if the cells from a position on are in rows from r on, the numbers in rows before r are those of the cells before it
pub number_of-before : (cs : List Cell) (p r i : ℕ) → IsFrom cs p r → i < r → number_of (take p cs) i ≡ number_of cs i
number_of-before cs p r i from l =
    let split = number_of-split cs p i in
    let none = number_of-none (drop p cs) i (λ k c is e. let later = from.each (p + k) c (omega arith) (slice_get-drop cs p k c is) in omega arith) in
    omega (arith, ints, split, none)

-- a cell before a position is a cell of the list
slice_get-front : (cs : List Cell) (p k : ℕ) (c : Cell) → slice_get (take p cs) k ≡ Some c → (k < p) × (slice_get cs k ≡ Some c)
slice_get-front [] zero k c is = cc
slice_get-front [] (suc p) k c is = cc
slice_get-front (d ∷ ds) zero k c is = cc
slice_get-front (d ∷ ds) (suc p) zero c is = (omega arith, is)
slice_get-front (d ∷ ds) (suc p) (suc k) c is = let r = slice_get-front ds p k c is in (omega (arith, r.0), r.1)

-- the cells before the first one in a row from m on are the numbers in the first m rows
pub front-numbers : (cs : List Cell) (p m : ℕ) → IsAscending cs → IsBefore cs p m → IsFrom cs p m → AreNumbers (take p cs) (number_of cs) m
front-numbers cs p m h before from = record {
  within = λ k c is. let f = slice_get-front cs p k c is in before.each k c f.0 f.1;
  each = λ k c is. let f = slice_get-front cs p k c is in number_of-at cs k c h f.1;
  all = λ i l apart.
      let same = number_of-before cs p m i from l in
      number_of-cell (take p cs) i (λ zero. apart (sym same ∙ zero));
}

-- the number in a row of ascending cells is below 2^31 in absolute value
pub number_of-small : (cs : List Cell) (i : ℕ) → IsAscending cs → unsigned_abs (number_of cs i) < 2 ^ 31
number_of-small cs i h = go (is_zero (number_of cs i)) refl
  where
    go : (b : Bool) → is_zero (number_of cs i) ≡ b → unsigned_abs (number_of cs i) < 2 ^ 31
    go true e = let zero = is_zero-true (number_of cs i) e in omega (arith, ints, zero)
    go false e =
        let found = number_of-cell cs i (is_zero-false (number_of cs i) e) in
        let is = ap (λ (r : ℕ). number_of cs r) (sym found.3) ∙ number_of-at cs found.0 found.1 h found.2 in
        let small = found.1.small in
        omega (arith, ints, is, small)
