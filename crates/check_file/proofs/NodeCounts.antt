-- Counts of nodes, up to 2^32.
use Rattle.std.proofs.Common.{◌≡◌, ◌↔◌, ℕ, ◌+◌, ◌<◌, ◌≤◌, ◌^◌, ◌⊎◌, inl, inr, subst, sym, arith}
use Rattle.std.proofs.lemmas.Bool.{cases_lt as order}
use Rattle.check_file.specs.Counts.{IsCount}

-- equal numbers have the same count
pub count-same : (n m k : ℕ) → n ≡ m → IsCount n k → IsCount m k
count-same n m k e h = subst (λ (x : ℕ). IsCount x k) e h

-- a number of at most 2^32 is its own count
pub count-none : (n m : ℕ) → n ≤ 2 ^ 32 → m ≡ n → IsCount m n
count-none n m l e = record { exact = λ o. sym e; most = λ o. omega (arith, l, e, o) }

-- a count is at most 2^32
pub count-within : (n k : ℕ) → IsCount n k → k ≤ 2 ^ 32
count-within n k h = go (order n (2 ^ 32))
  where
    go : (n < 2 ^ 32) ⊎ (2 ^ 32 ≤ n) → k ≤ 2 ^ 32
    go (inl l) = omega (arith, l, h.exact l)
    go (inr l) = omega (arith, h.most l)

-- counting on from a count gives the count of the sum
pub count-more : (n k m r : ℕ) → IsCount n k → IsCount (k + m) r → IsCount (n + m) r
count-more n k m r h g = record {
  exact = λ l.
      let low : n < 2 ^ 32 = omega (arith, l) in
      let same = h.exact low in
      let first : k + m < 2 ^ 32 = omega (arith, same, l) in
      omega (arith, same, g.exact first);
  most = λ l. go l (order n (2 ^ 32));
}
  where
    go : 2 ^ 32 ≤ n + m → (n < 2 ^ 32) ⊎ (2 ^ 32 ≤ n) → r ≡ 2 ^ 32
    go l (inl o) = g.most (omega (arith, h.exact o, l))
    go l (inr o) = g.most (omega (arith, h.most o))

-- a count is below 2^32 exactly if the number is
pub few-counted : (n k : ℕ) → IsCount n k → (k < 2 ^ 32) ↔ (n < 2 ^ 32)
few-counted n k h = (λ l. go l (order n (2 ^ 32)), λ l. omega (arith, l, h.exact l))
  where
    go : k < 2 ^ 32 → (n < 2 ^ 32) ⊎ (2 ^ 32 ≤ n) → n < 2 ^ 32
    go l (inl o) = o
    go l (inr o) = absurd (omega (arith, l, h.most o))
