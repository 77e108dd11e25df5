-- Laws of numbers of sets.
use Rattle.std.proofs.Common.{◌≡◌, ℕ, zero, suc, ◌+◌, ◌*◌, ◌<◌, ◌≤◌, ap, arith, refl, sym, ◌∙◌, ◌⊎◌, inl, inr}
use Rattle.std.proofs.lemmas.Bool.{cases_lt}
use Rattle.std.proofs.Common.{subst, ◌^◌, ◌/◌, Bool, true, false, Some, None, add-one}
use Rattle.std.specs.Prelude.{nat_lt, if◌then◌else◌}
use Rattle.std.proofs.lemmas.Bool.{lt-ltb, ltb-true}
use Rattle.std.proofs.Math.Nat.{mul-div_cancel}
use Rattle.bland_end.specs.Counting.{choose, below_limit}

-- choosing k + 1 of n + 1 things and marking one of them is marking one thing and choosing k of the others
pub choose-absorbed : (n k : ℕ) → choose (suc n) (suc k) * suc k ≡ choose n k * suc n
choose-absorbed zero zero = refl
choose-absorbed zero (suc k) = omega arith
choose-absorbed (suc n) zero = let ih = choose-absorbed n zero in omega (arith, ih)
choose-absorbed (suc n) (suc k) =
    joined (choose n k) (choose n (suc k)) (choose (suc n) (suc (suc k))) n k (choose-absorbed n k) (choose-absorbed n (suc k))
  where
    joined : (a b c n k : ℕ) → (a + b) * suc k ≡ a * suc n → c * suc (suc k) ≡ b * suc n
        → ((a + b) + c) * suc (suc k) ≡ (a + b) * suc (suc n)
    joined a b c n k h g = omega (arith, h, g)

-- no set has more things than there are
choose-past : (n k : ℕ) → n < k → choose n k ≡ 0
choose-past n zero l = absurd (omega arith)
choose-past zero (suc k) l = refl
choose-past (suc n) (suc k) l =
    let a = choose-past n k (omega arith) in let b = choose-past n (suc k) (omega arith) in omega (arith, a, b)

-- there is one set of all things
choose-all : (n : ℕ) → choose n n ≡ 1
choose-all zero = refl
choose-all (suc n) = let a = choose-all n in let b = choose-past n (suc n) (omega arith) in omega (arith, a, b)

-- choosing b of a + b things is leaving out a of them
pub choose-sym : (a b : ℕ) → choose (a + b) b ≡ choose (b + a) a
choose-sym zero b = ap (λ k. choose k b) z ∙ choose-all b
  where
    z : 0 + b ≡ b
    z = omega arith
choose-sym (suc a) b = next (choose-sym a) b
  where
    next : ((b : ℕ) → choose (a + b) b ≡ choose (b + a) a) → (b : ℕ) → choose (suc a + b) b ≡ choose (b + suc a) (suc a)
    next ih zero =
        let z : 0 + suc a ≡ suc a = omega arith in
        sym (ap (λ k. choose k (suc a)) z ∙ choose-all (suc a))
    next ih (suc b) =
        let left : suc a + suc b ≡ suc (a + suc b) = omega arith in
        let inner : a + suc b ≡ suc a + b = omega arith in
        let right : suc b + suc a ≡ suc (b + suc a) = omega arith in
        let outer : b + suc a ≡ suc b + a = omega arith in
        ap (λ k. choose k (suc b)) left
        ∙ (added (choose (a + suc b) b) (choose (a + suc b) (suc b)) (choose (b + suc a) a) (choose (b + suc a) (suc a))
        (ap (λ k. choose k b) inner ∙ next ih b) (ih (suc b) ∙ ap (λ k. choose k a) (sym outer))
        ∙ ap (λ k. choose k (suc a)) (sym right))
      where
        added : (v w x y : ℕ) → v ≡ y → w ≡ x → v + w ≡ x + y
        added v w x y e f = omega arith

-- with m things not chosen, there are at least as many sets when more are chosen
pub diagonal-up : (m i k : ℕ) → i ≤ k → choose (m + i) i ≤ choose (m + k) k
diagonal-up m i zero l = let e : i ≡ 0 = omega arith in let f = ap (λ n. choose (m + n) n) e in omega (arith, f)
diagonal-up m i (suc k) l = go (cases_lt k i) (λ n. diagonal-up m i k n)
  where
    go : (k < i) ⊎ (i ≤ k) → (i ≤ k → choose (m + i) i ≤ choose (m + k) k) → choose (m + i) i ≤ choose (m + suc k) (suc k)
    go (inl n) ih = let e : i ≡ suc k = omega arith in let f = ap (λ n. choose (m + n) n) e in omega (arith, f)
    go (inr n) ih =
        let e : m + suc k ≡ suc (m + k) = omega arith in
        let f = ap (λ n. choose n (suc k)) e in
        let g = ih n in
        omega (arith, f, g)

-- the number of sets after one more thing is chosen, with m not chosen
pub next-sets : (m i : ℕ) → choose (m + suc i) (suc i) * suc i ≡ choose (m + i) i * (m + suc i)
next-sets m i =
    let e : m + suc i ≡ suc (m + i) = omega arith in
    ap (λ n. choose n (suc i) * suc i) e ∙ (choose-absorbed (m + i) i ∙ ap (λ n. choose (m + i) i * n) (sym e))

-- the same recurrence, with a quotient
pub next-quotient : (m i sets : ℕ) → sets ≡ choose (m + i) i → sets * (m + (i + 1)) / (i + 1) ≡ choose (m + (i + 1)) (i + 1)
next-quotient m i sets h =
    ap (λ k. k * (m + (i + 1)) / (i + 1)) h
    ∙ subst (λ k. choose (m + i) i * (m + k) / k ≡ choose (m + k) k) (sym (add-one i))
    (ap (λ k. k / suc i) (sym (next-sets m i)) ∙ mul-div_cancel (choose (m + suc i) (suc i)) (omega arith))

-- a number below the limit
pub limit-some : (n : ℕ) → n < 2 ^ 32 → below_limit n ≡ Some n
limit-some n l = ap (λ (v : Bool). if v then Some n else None) (lt-ltb n (2 ^ 32) l)

-- a number of at least 2^32 isn't below the limit
pub limit-none : (n : ℕ) → 2 ^ 32 ≤ n → below_limit n ≡ None
limit-none n l = go (nat_lt n (2 ^ 32)) refl
  where
    go : (v : Bool) → nat_lt n (2 ^ 32) ≡ v → (if v then Some n else None) ≡ None
    go true e = absurd (let k = ltb-true n (2 ^ 32) e in omega (arith, k, l))
    go false e = refl

-- a number that the limit lets pass is below it
pub some-limit : (n k : ℕ) → below_limit n ≡ Some k → (n ≡ k) × (n < 2 ^ 32)
some-limit n k h = go (nat_lt n (2 ^ 32)) refl h
  where
    go : (v : Bool) → nat_lt n (2 ^ 32) ≡ v → (if v then Some n else None) ≡ Some k → (n ≡ k) × (n < 2 ^ 32)
    go true e h = (cc, ltb-true n (2 ^ 32) e)
    go false e h = cc
