-- Laws of sums over index functions.
use Rattle.std.proofs.Common.{◌≡◌, ◌≢◌, ℕ, zero, suc, ◌+◌, ◌<◌, ◌≤◌, ap, arith, refl, sym, ◌∙◌, add-zero, add-suc}
use Rattle.std.proofs.Common.{add-one, ◌⊎◌, inl, inr}
use Rattle.std.proofs.lemmas.Bool.{cases_lt}
use Rattle.std.specs.Prelude.{ℤ, pos, ◌+ℤ◌, ◌-ℤ◌, ◌*ℤ◌, ◌≤ℤ◌, ◌<ℤ◌}
use Rattle.std.proofs.lemmas.Int.{ints}
use Rattle.int_laws.specs.Sums.{sum_to}
use Rattle.int_laws.proofs.RingLaws.{mul-add_ℤ, mul_comm_ℤ}

-- the sum of n + 1 terms is that of the first n and the last
pub sum_to-next : (n : ℕ) (f : ℕ → ℤ) → sum_to (n + 1) f ≡ sum_to n f +ℤ f n
sum_to-next n f = rw (add-one n) refl

-- sums of equal terms are equal
pub sum_to-same : (n : ℕ) (f g : ℕ → ℤ) → ((j : ℕ) → j < n → f j ≡ g j) → sum_to n f ≡ sum_to n g
sum_to-same zero f g h = refl
sum_to-same (suc n) f g h =
    ap (λ (z : ℤ). z +ℤ f n) (sum_to-same n f g (λ j l. h j (omega arith))) ∙ ap (λ (z : ℤ). sum_to n g +ℤ z) (h n (omega arith))

-- a sum of terms that are 0 is 0
pub sum_to-zero : (n : ℕ) (f : ℕ → ℤ) → ((j : ℕ) → j < n → f j ≡ pos 0) → sum_to n f ≡ pos 0
sum_to-zero zero f h = refl
sum_to-zero (suc n) f h = both _ _ (sum_to-zero n f (λ j l. h j (omega arith))) (h n (omega arith))
  where
    both : (a b : ℤ) → a ≡ pos 0 → b ≡ pos 0 → a +ℤ b ≡ pos 0
    both a b e f = omega (arith, ints)

-- the sum of f + g is the sum of f plus that of g
pub sum_to-add : (n : ℕ) (f g : ℕ → ℤ) → sum_to n (λ j. f j +ℤ g j) ≡ sum_to n f +ℤ sum_to n g
sum_to-add zero f g = refl
sum_to-add (suc n) f g = regroup _ _ _ (f n) (g n) (sum_to-add n f g)
  where
    regroup : (s v w a b : ℤ) → s ≡ v +ℤ w → s +ℤ (a +ℤ b) ≡ (v +ℤ a) +ℤ (w +ℤ b)
    regroup s v w a b e = omega (arith, ints)

-- the sum of f - g is the sum of f less that of g
pub sum_to-sub : (n : ℕ) (f g : ℕ → ℤ) → sum_to n (λ j. f j -ℤ g j) ≡ sum_to n f -ℤ sum_to n g
sum_to-sub zero f g = refl
sum_to-sub (suc n) f g = regroup _ _ _ (f n) (g n) (sum_to-sub n f g)
  where
    regroup : (s v w a b : ℤ) → s ≡ v -ℤ w → s +ℤ (a -ℤ b) ≡ (v +ℤ a) -ℤ (w +ℤ b)
    regroup s v w a b e = omega (arith, ints)

-- a common factor on the left can be taken out of a sum
pub sum_to-scale : (n : ℕ) (c : ℤ) (f : ℕ → ℤ) → sum_to n (λ j. c *ℤ f j) ≡ c *ℤ sum_to n f
sum_to-scale zero c f = sym (times_zero c)
  where
    times_zero : (c : ℤ) → c *ℤ pos 0 ≡ pos 0
    times_zero c = omega (arith, ints)
sum_to-scale (suc n) c f = ap (λ (z : ℤ). z +ℤ c *ℤ f n) (sum_to-scale n c f) ∙ sym (mul-add_ℤ c (sum_to n f) (f n))

-- a common factor on the right can be taken out of a sum
pub sum_to-scale_behind : (n : ℕ) (c : ℤ) (f : ℕ → ℤ) → sum_to n (λ j. f j *ℤ c) ≡ sum_to n f *ℤ c
sum_to-scale_behind n c f =
    sum_to-same n (λ j. f j *ℤ c) (λ j. c *ℤ f j) (λ j _. mul_comm_ℤ (f j) c) ∙ (sum_to-scale n c f ∙ mul_comm_ℤ c (sum_to n f))

-- if each term is at most another, so is the sum
pub sum_to-le : (n : ℕ) (f g : ℕ → ℤ) → ((j : ℕ) → j < n → f j ≤ℤ g j) → sum_to n f ≤ℤ sum_to n g
sum_to-le zero f g h = omega (arith, ints)
sum_to-le (suc n) f g h = both _ _ _ _ (sum_to-le n f g (λ j l. h j (omega arith))) (h n (omega arith))
  where
    both : (a b c d : ℤ) → a ≤ℤ b → c ≤ℤ d → (a +ℤ c) ≤ℤ (b +ℤ d)
    both a b c d e f = omega (arith, ints)

-- a sum of terms that are at least 0 is at least 0
pub sum_to-nonneg : (n : ℕ) (f : ℕ → ℤ) → ((j : ℕ) → j < n → pos 0 ≤ℤ f j) → pos 0 ≤ℤ sum_to n f
sum_to-nonneg zero f h = omega (arith, ints)
sum_to-nonneg (suc n) f h = both _ _ (sum_to-nonneg n f (λ j l. h j (omega arith))) (h n (omega arith))
  where
    both : (a b : ℤ) → pos 0 ≤ℤ a → pos 0 ≤ℤ b → pos 0 ≤ℤ (a +ℤ b)
    both a b e f = omega (arith, ints)

-- an index below n + 1 is n or below n
pub last_or_before : (n j : ℕ) → j < suc n → (j ≡ n) ⊎ (j < n)
last_or_before n j l = go (cases_lt j n)
  where
    go : (j < n) ⊎ (n ≤ j) → (j ≡ n) ⊎ (j < n)
    go (inl m) = inr m
    go (inr m) = inl (omega arith)

-- if terms are at least 0 and their sum is 0, each is 0
pub sum_to-all_zero : (n : ℕ) (f : ℕ → ℤ) → ((j : ℕ) → j < n → pos 0 ≤ℤ f j) → sum_to n f ≡ pos 0 → (j : ℕ) → j < n → f j ≡ pos 0
sum_to-all_zero zero f h e j l = absurd (omega arith)
sum_to-all_zero (suc n) f h e j l =
    let parts = two _ _ (sum_to-nonneg n f (λ k m. h k (omega arith))) (h n (omega arith)) e in
    go parts.0 parts.1 (sum_to-all_zero n f (λ k m. h k (omega arith)) parts.0) (last_or_before n j l)
  where
    two : (v w : ℤ) → pos 0 ≤ℤ v → pos 0 ≤ℤ w → v +ℤ w ≡ pos 0 → (v ≡ pos 0) × (w ≡ pos 0)
    two v w a b c = (omega (arith, ints), omega (arith, ints))

    go : sum_to n f ≡ pos 0 → f n ≡ pos 0 → ((k : ℕ) → k < n → f k ≡ pos 0) → (j ≡ n) ⊎ (j < n) → f j ≡ pos 0
    go s t ih (inl e) = ap f e ∙ t
    go s t ih (inr m) = ih j m

-- a sum whose terms are all 0 except at k is its term at k
pub sum_to-single : (n k : ℕ) (f : ℕ → ℤ) → k < n → ((j : ℕ) → j < n → j ≢ k → f j ≡ pos 0) → sum_to n f ≡ f k
sum_to-single zero k f l h = absurd (omega arith)
sum_to-single (suc n) k f l h = go (λ m. sum_to-single n k f m (λ j i. h j (omega arith))) (last_or_before n k l)
  where
    go : (k < n → sum_to n f ≡ f k) → (k ≡ n) ⊎ (k < n) → sum_to (suc n) f ≡ f k
    go ih (inl e) = at_end _ _ _ (sum_to-zero n f (λ j m. h j (omega arith) (omega arith))) (ap f e)
      where
        at_end : (v w z : ℤ) → v ≡ pos 0 → z ≡ w → v +ℤ w ≡ z
        at_end v w z a b = omega (arith, ints)
    go ih (inr m) = before _ _ _ (ih m) (h n (omega arith) (omega arith))
      where
        before : (v w z : ℤ) → v ≡ z → w ≡ pos 0 → v +ℤ w ≡ z
        before v w z a b = omega (arith, ints)

-- a sum over m + n indices is that over the first m and that over the next n
pub sum_to-split : (m n : ℕ) (f : ℕ → ℤ) → sum_to (m + n) f ≡ sum_to m f +ℤ sum_to n (λ j. f (m + j))
sum_to-split m zero f = ap (λ (k : ℕ). sum_to k f) (add-zero m) ∙ plus_zero (sum_to m f)
  where
    plus_zero : (z : ℤ) → z ≡ z +ℤ pos 0
    plus_zero z = omega (arith, ints)
sum_to-split m (suc n) f =
    ap (λ (k : ℕ). sum_to k f) (add-suc m n) ∙ regroup _ _ _ (f (m + n)) (sum_to-split m n f)
  where
    regroup : (s v w a : ℤ) → s ≡ v +ℤ w → s +ℤ a ≡ v +ℤ (w +ℤ a)
    regroup s v w a e = omega (arith, ints)

-- two sums can be exchanged
pub sum_to-swap : (m n : ℕ) (f : ℕ → ℕ → ℤ) → sum_to m (λ i. sum_to n (λ j. f i j)) ≡ sum_to n (λ j. sum_to m (λ i. f i j))
sum_to-swap zero n f = sym (sum_to-zero n (λ j. pos 0) (λ j l. refl))
sum_to-swap (suc m) n f =
    ap (λ (z : ℤ). z +ℤ sum_to n (λ j. f m j)) (sum_to-swap m n f) ∙ sym (sum_to-add n (λ j. sum_to m (λ i. f i j)) (λ j. f m j))

-- a sum is one of its terms plus the sum without it
pub sum_to-apart : (n k : ℕ) (f g : ℕ → ℤ) → k < n → g k ≡ pos 0 → ((j : ℕ) → j < n → j ≢ k → g j ≡ f j) → sum_to n f ≡ sum_to n g +ℤ f k
sum_to-apart n k f g l z h =
    from_difference _ _ _ _ (sum_to-sub n f g) (sum_to-single n k (λ j. f j -ℤ g j) l (λ j m d. no_difference _ _ (h j m d))) z
  where
    no_difference : (a b : ℤ) → b ≡ a → a -ℤ b ≡ pos 0
    no_difference a b e = omega (arith, ints)

    from_difference : (s v d a : ℤ) → d ≡ s -ℤ v → d ≡ a -ℤ g k → g k ≡ pos 0 → s ≡ v +ℤ a
    from_difference s v d a e f z = omega (arith, ints)

-- a sum of terms of at least 0 is above 0 if one of them is
pub sum_to-positive : (n k : ℕ) (f : ℕ → ℤ) → k < n → ((j : ℕ) → j < n → pos 0 ≤ℤ f j) → pos 0 <ℤ f k → pos 0 <ℤ sum_to n f
sum_to-positive zero k f l h p = absurd (omega arith)
sum_to-positive (suc n) k f l h p = go (last_or_before n k l) (λ m. sum_to-positive n k f m (λ j i. h j (omega arith)) p)
  where
    at_end : (v w z : ℤ) → pos 0 ≤ℤ v → pos 0 <ℤ z → z ≡ w → pos 0 <ℤ (v +ℤ w)
    at_end v w z a b e = omega (arith, ints)

    before : (v w : ℤ) → pos 0 <ℤ v → pos 0 ≤ℤ w → pos 0 <ℤ (v +ℤ w)
    before v w a b = omega (arith, ints)

    go : (k ≡ n) ⊎ (k < n) → (k < n → pos 0 <ℤ sum_to n f) → pos 0 <ℤ sum_to (suc n) f
    go (inl e) ih = at_end (sum_to n f) (f n) (f k) (sum_to-nonneg n f (λ j i. h j (omega arith))) p (ap f e)
    go (inr m) ih = before (sum_to n f) (f n) (ih m) (h n (omega arith))
