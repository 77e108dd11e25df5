-- Whole square roots.
use Rattle.std.proofs.Common.{◌≡◌, ℕ, zero, suc, ◌*◌, ◌<◌, ◌≤◌, ◌⊎◌, inl, inr, arith}
use Rattle.std.specs.Prelude.{nat_lt}
use Rattle.std.proofs.Math.Nat.{mul-le-mul}
use Rattle.std.proofs.lemmas.Bool.{ltb-true, ltb-false, cases_lt}
use Rattle.signed_bounds.specs.Bounds.{root_up_to, whole_root}
use Rattle.signed_bounds.proofs.Choices.{chosen}

-- the square of the root is at most the number
pub root_up_to-square : (m n : ℕ) → root_up_to m n * root_up_to m n ≤ n
root_up_to-square zero n = omega arith
root_up_to-square (suc m) n =
    chosen (λ r. r * r ≤ n) (nat_lt n (suc m * suc m)) (root_up_to m n) (suc m)
    (λ e. root_up_to-square m n)
    (λ e. ltb-false n (suc m * suc m) e)

-- the square of the next number after the root is greater than n, if that of the number after the last one tried is
pub root_up_to-next : (m n : ℕ) → n < suc m * suc m → n < suc (root_up_to m n) * suc (root_up_to m n)
root_up_to-next zero n h = h
root_up_to-next (suc m) n h =
    chosen (λ r. n < suc r * suc r) (nat_lt n (suc m * suc m)) (root_up_to m n) (suc m)
    (λ e. root_up_to-next m n (ltb-true n (suc m * suc m) e))
    (λ e. h)

-- the square of the whole root of n is at most n
pub whole_root-square : (n : ℕ) → whole_root n * whole_root n ≤ n
whole_root-square n = root_up_to-square n n

-- the square of the next number after the whole root of n is greater than n
pub whole_root-next : (n : ℕ) → n < suc (whole_root n) * suc (whole_root n)
whole_root-next n = root_up_to-next n n (omega arith)

-- a number whose square is at most n is at most a number whose next square is greater than n
pub root_at_most : (r s n : ℕ) → r * r ≤ n → n < suc s * suc s → r ≤ s
root_at_most r s n low high = go (cases_lt s r)
  where
    go : (s < r) ⊎ (r ≤ s) → r ≤ s
    go (inl above) = let h : suc s * suc s ≤ r * r = mul-le-mul above above in absurd (omega arith)
    go (inr below) = below

-- whole roots grow with the number
pub whole_root-grows : (m n : ℕ) → m ≤ n → whole_root m ≤ whole_root n
whole_root-grows m n h =
    let low : whole_root m * whole_root m ≤ n = omega (arith, whole_root-square m) in
    root_at_most (whole_root m) (whole_root n) n low (whole_root-next n)

-- the whole root of n is the only number whose square is at most n while the next square is greater
pub whole_root-unique : (r n : ℕ) → r * r ≤ n → n < suc r * suc r → r ≡ whole_root n
whole_root-unique r n low high =
    let up = root_at_most r (whole_root n) n low (whole_root-next n) in
    let down = root_at_most (whole_root n) r n (whole_root-square n) high in
    omega arith
