-- Ranges of numbers, longer by one.
use Rattle.std.proofs.Common.{◌≡◌, ℕ, zero, suc, ◌+◌, List, [], ◌∷◌, ◌++◌, ap, ◌∙◌, arith}
use Rattle.std.specs.List.{range_with_len}

-- a range of n + 1 numbers is that of n numbers and the next one
pub numbers-more : (a n : ℕ) → range_with_len a (n + 1) ≡ range_with_len a n ++ (a + n) ∷ []
numbers-more a zero = ap (λ (m : ℕ). m ∷ []) (let e : a ≡ a + 0 = omega arith in e)
numbers-more a (suc n) =
    ap (range_with_len a) (let k : suc n + 1 ≡ suc (n + 1) = omega arith in k)
    ∙ ap (λ (ms : List ℕ). a ∷ ms) (numbers-more (a + 1) n
    ∙ ap (λ (m : ℕ). range_with_len (a + 1) n ++ m ∷ []) (let e : a + 1 + n ≡ a + suc n = omega arith in e))
