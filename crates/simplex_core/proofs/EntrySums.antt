-- The sums of a problem's numbers in each column, entry by entry.
use Rattle.std.proofs.Common.{◌≡◌, ◌≢◌, ℕ, ◌+◌, ◌*◌, ◌<◌, ◌≤◌, ◌^◌, ap, arith, refl, sym, ◌∙◌, ◌⊎◌, inl, inr, List, [], take, Some, length, replicate}
use Rattle.std.specs.Prelude.{ℤ, pos, ◌+ℤ◌, ◌*ℤ◌, slice_get, slice_set, slice_index_or, unsigned_abs}
use Rattle.std.proofs.lemmas.Int.{ints}
use Rattle.std.proofs.lemmas.List.{get_or-set_same, get_or-set_other, get_or-replicate, get_or_past, length-replicate}
use Rattle.std.proofs.lemmas.Bool.{cases_lt}
use Rattle.int_laws.specs.Sums.{sum_to}
use Rattle.int_laws.proofs.SumLaws.{sum_to-same, sum_to-zero, sum_to-apart}
use Rattle.int_laws.proofs.RingLaws.{mul-zero_ℤ}
use Rattle.simplex_core.specs.declared.problem.Entry.{Entry}
use Rattle.simplex_core.specs.Tableau.{sign_of}
use Rattle.simplex_core.specs.Building.{AreSumsOf, signed_entries}
use Rattle.simplex_core.specs.Numbers.{AreInCells}
use Rattle.simplex_core.proofs.Invariant.{same_or_other}
use Rattle.simplex_core.proofs.WrittenNumbers.{signed-absent, signed-new, signed-other}

-- each number of a list of zeros is 0
pub zeros-are : (sums : List ℤ) (n : ℕ) → sums ≡ replicate n (pos 0) → (j : ℕ) → slice_index_or sums j (pos 0) ≡ pos 0
zeros-are sums n e j = ap (λ (xs : List ℤ). slice_index_or xs j (pos 0)) e ∙ go (cases_lt j n)
  where
    go : (j < n) ⊎ (n ≤ j) → slice_index_or (replicate n (pos 0)) j (pos 0) ≡ pos 0
    go (inl l) = get_or-replicate n j (pos 0) (pos 0) l
    go (inr l) = get_or_past (replicate n (pos 0)) j (pos 0) (omega (arith, l, length-replicate n (pos 0)))

-- no entries have the sums 0
pub sums-none : (m n : ℕ) (right sums : List ℤ) → ((j : ℕ) → slice_index_or sums j (pos 0) ≡ pos 0) → AreSumsOf (signed_entries [] right) m n sums
sums-none m n right sums zeros = record {
  each = λ j _. zeros j ∙ sym (sum_to-zero m (λ i. signed_entries [] right i j) (λ i _. mul-zero_ℤ (sign_of (slice_index_or right i (pos 0))) (pos 0) refl));
}

-- one more entry adds its number to the sum of its column, and changes no other sum
pub sums-step : (m n k : ℕ) (es : List Entry) (right sums : List ℤ) (e : Entry) (z : ℤ) → AreInCells m n es → slice_get es k ≡ Some e → e.col < length sums
    → z ≡ slice_index_or sums e.col (pos 0) +ℤ sign_of (slice_index_or right e.row (pos 0)) *ℤ e.value
    → AreSumsOf (signed_entries (take k es) right) m n sums → AreSumsOf (signed_entries (take (k + 1) es) right) m n (slice_set sums e.col z)
sums-step m n k es right sums e z cells is within value before = record { each = λ j l. go j l (same_or_other j e.col) }
  where
    old : ℕ → ℕ → ℤ
    old = signed_entries (take k es) right

    new : ℕ → ℕ → ℤ
    new = signed_entries (take (k + 1) es) right

    number : ℤ
    number = sign_of (slice_index_or right e.row (pos 0)) *ℤ e.value

    row : e.row < m
    row = (cells.inside k e is).0

    column : e.col < n
    column = (cells.inside k e is).1

    apart : sum_to m (λ i. new i e.col) ≡ sum_to m (λ i. old i e.col) +ℤ new e.row e.col
    apart = sum_to-apart m e.row (λ i. new i e.col) (λ i. old i e.col) row (signed-absent m n k es right e cells is)
        (λ i _ other. sym (signed-other k es right e i e.col is (λ r _. other (sym r))))

    go : (j : ℕ) → j < n → (j ≡ e.col) ⊎ (j ≢ e.col) → slice_index_or (slice_set sums e.col z) j (pos 0) ≡ sum_to m (λ i. new i j)
    go j l (inl s) =
        ap (λ (c : ℕ). slice_index_or (slice_set sums e.col z) c (pos 0)) s
        ∙ (get_or-set_same sums e.col z (pos 0) within
        ∙ (value
        ∙ (ap (λ (y : ℤ). y +ℤ number) (before.each e.col column)
        ∙ (ap (λ (y : ℤ). sum_to m (λ i. old i e.col) +ℤ y) (sym (signed-new m n k es right e cells is))
        ∙ (sym apart ∙ ap (λ (c : ℕ). sum_to m (λ i. new i c)) (sym s))))))
    go j l (inr d) =
        get_or-set_other sums e.col j z (pos 0) d
        ∙ (before.each j l
        ∙ sum_to-same m (λ i. old i j) (λ i. new i j) (λ i _. sym (signed-other k es right e i j is (λ _ c. d (sym c)))))

-- the sums remain bounded when a small number is added to one of them
pub bounded-step : (k c : ℕ) (sums : List ℤ) (number z : ℤ) → c < length sums → z ≡ slice_index_or sums c (pos 0) +ℤ number → unsigned_abs number < 2 ^ 31
    → ((j : ℕ) → unsigned_abs (slice_index_or sums j (pos 0)) ≤ k * 2 ^ 31) → (j : ℕ) → unsigned_abs (slice_index_or (slice_set sums c z) j (pos 0)) ≤ (k + 1) * 2 ^ 31
bounded-step k c sums number z within value small before j = go (same_or_other j c)
  where
    more : (a b y : ℤ) (x : ℕ) → y ≡ a +ℤ b → unsigned_abs a ≤ x * 2 ^ 31 → unsigned_abs b < 2 ^ 31 → unsigned_abs y ≤ (x + 1) * 2 ^ 31
    more a b y x e l s = omega (arith, ints, e, l, s)

    kept : (y : ℤ) → y ≡ slice_index_or sums j (pos 0) → unsigned_abs y ≤ (k + 1) * 2 ^ 31
    kept y e = more (slice_index_or sums j (pos 0)) (pos 0) y k (e ∙ plain (slice_index_or sums j (pos 0))) (before j) (omega arith)
      where
        plain : (a : ℤ) → a ≡ a +ℤ pos 0
        plain a = omega (arith, ints)

    go : (j ≡ c) ⊎ (j ≢ c) → unsigned_abs (slice_index_or (slice_set sums c z) j (pos 0)) ≤ (k + 1) * 2 ^ 31
    go (inl s) =
        more (slice_index_or sums c (pos 0)) number (slice_index_or (slice_set sums c z) j (pos 0)) k
        (ap (λ (x : ℕ). slice_index_or (slice_set sums c z) x (pos 0)) s ∙ (get_or-set_same sums c z (pos 0) within ∙ value)) (before c) small
    go (inr d) = kept (slice_index_or (slice_set sums c z) j (pos 0)) (get_or-set_other sums c j z (pos 0) d)
