-- Sets of numbers below n are ranked by their greatest numbers: different sets of equally many numbers have different
-- ranks, and each rank is below the number of such sets.
use Rattle.std.proofs.Common.{◌≡◌, ◌≢◌, ℕ, zero, suc, ◌+◌, ◌<◌, ◌≤◌, ap, arith, refl, sym, ◌∙◌, ◌⊎◌, inl, inr}
use Rattle.std.proofs.Common.{Bool, true, false, List, [], ◌∷◌, length, eqb, ◌||◌}
use Rattle.std.specs.List.{AllByRecursion, IsDistinct, list_any}
use Rattle.std.specs.Prelude.{if◌then◌else◌}
use Rattle.std.proofs.lemmas.Bool.{eqb-true, ne_eqb}
use Rattle.std.proofs.lemmas.Map.Steps.{length-le_from_distinct_below}
use Rattle.int_laws.proofs.SumLaws.{last_or_before}
use Rattle.bland_end.specs.Counting.{choose}

-- how many of the numbers below n are in the set
abbrev pub count : ℕ → (ℕ → Bool) → ℕ
count zero f = 0
count (suc n) f = if f n then suc (count n f) else count n f

-- the rank of the set among the sets of equally many numbers below n
abbrev pub rank : ℕ → (ℕ → Bool) → ℕ
rank zero f = 0
rank (suc n) f = if f n then choose n (suc (count n f)) + rank n f else rank n f

-- at least as many sets can be chosen from n + 1 numbers as from n
choose-more : (n k : ℕ) → choose n k ≤ choose (suc n) k
choose-more n zero = omega arith
choose-more n (suc k) = omega arith

-- a rank is below the number of sets
pub rank-below : (n : ℕ) (f : ℕ → Bool) → rank n f < choose n (count n f)
rank-below zero f = omega arith
rank-below (suc n) f = go (f n) refl (rank-below n f)
  where
    go : (v : Bool) → f n ≡ v → rank n f < choose n (count n f)
        → (if v then choose n (suc (count n f)) + rank n f else rank n f) < choose (suc n) (if v then suc (count n f) else count n f)
    go true e h = omega arith
    go false e h = let m = choose-more n (count n f) in omega (arith, h, m)

-- sets of equally many numbers with the same rank are equal
pub rank-same : (n : ℕ) (f g : ℕ → Bool) → count n f ≡ count n g → rank n f ≡ rank n g → (j : ℕ) → j < n → f j ≡ g j
rank-same zero f g e h j l = absurd (omega arith)
rank-same (suc n) f g e h j l = go (f n) (g n) refl refl e h (last_or_before n j l) (λ c r. rank-same n f g c r j)
  where
    at_last : f n ≡ g n → j ≡ n → f j ≡ g j
    at_last e i = ap f i ∙ (e ∙ ap g (sym i))

    go : (v w : Bool) → f n ≡ v → g n ≡ w
        → (if v then suc (count n f) else count n f) ≡ (if w then suc (count n g) else count n g)
        → (if v then choose n (suc (count n f)) + rank n f else rank n f) ≡ (if w then choose n (suc (count n g)) + rank n g else rank n g)
        → (j ≡ n) ⊎ (j < n) → (count n f ≡ count n g → rank n f ≡ rank n g → j < n → f j ≡ g j) → f j ≡ g j
    go true true ev ew c r (inl i) ih = at_last (ev ∙ sym ew) i
    go true true ev ew c r (inr m) ih =
        let same : count n f ≡ count n g = omega arith in
        let first = ap (λ k. choose n (suc k)) same in
        ih same (omega (arith, first, r)) m
    go false false ev ew c r (inl i) ih = at_last (ev ∙ sym ew) i
    go false false ev ew c r (inr m) ih = ih c r m
    go true false ev ew c r i ih =
        let below = rank-below n g in
        let size = ap (λ k. choose n k) c in
        absurd (omega (arith, below, size, r))
    go false true ev ew c r i ih =
        let below = rank-below n f in
        let size = ap (λ k. choose n k) c in
        absurd (omega (arith, below, size, r))

-- the values of f at the numbers below k, the last first
abbrev values : (ℕ → ℕ) → ℕ → List ℕ
values f zero = []
values f (suc k) = f k ∷ values f k

-- there are as many values as numbers
length-values : (f : ℕ → ℕ) (k : ℕ) → length (values f k) ≡ k
length-values f zero = refl
length-values f (suc k) = let l = length-values f k in omega (arith, l)

-- if f doesn't take the value x, x isn't among the values
values-apart : (f : ℕ → ℕ) (x k : ℕ) → ((i : ℕ) → i < k → x ≢ f i) → AllByRecursion (λ y. eqb x y ≡ false) (values f k)
values-apart f x zero h = tt
values-apart f x (suc k) h = (ne_eqb x (f k) (h k (omega arith)), values-apart f x k (λ i l. h i (omega arith)))

-- if f takes no value twice, the values are different
values-distinct : (f : ℕ → ℕ) (k : ℕ) → ((i j : ℕ) → i < j → j < k → f i ≢ f j) → IsDistinct eqb (values f k)
unfolding IsDistinct
values-distinct f zero h = tt
values-distinct f (suc k) h =
    (values-apart f (f k) k (λ i l e. h i k l (omega arith) (sym e)), values-distinct f k (λ i j l m. h i j l (omega arith)))

-- if f takes only values below n, the values are below n
values-below : (f : ℕ → ℕ) (n k : ℕ) → ((i : ℕ) → i < k → f i < n) → (x : ℕ) → list_any (eqb x) (values f k) ≡ true → x < n
values-below f n zero h x e = cc
values-below f n (suc k) h x e = go (eqb x (f k)) refl e (values-below f n k (λ i l. h i (omega arith)) x)
  where
    go : (v : Bool) → eqb x (f k) ≡ v → (v || list_any (eqb x) (values f k)) ≡ true
        → (list_any (eqb x) (values f k) ≡ true → x < n) → x < n
    go true ev e ih = let same = eqb-true x (f k) ev in let l = h k (omega arith) in omega (arith, same, l)
    go false ev e ih = ih e

-- there are at most n different numbers below n
pub few_below : (f : ℕ → ℕ) (k n : ℕ) → ((i : ℕ) → i < k → f i < n) → ((i j : ℕ) → i < j → j < k → f i ≢ f j) → k ≤ n
few_below f k n below apart =
    let few = length-le_from_distinct_below (values f k) n (values-distinct f k apart) (values-below f n k below) in
    let l = length-values f k in
    omega (arith, few, l)
