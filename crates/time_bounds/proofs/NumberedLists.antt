-- A property of each element by its number, for a list with one element more, and for the element at a position.
use Rattle.std.proofs.Common.{◌≡◌, ℕ, zero, suc, ◌+◌, ◌<◌, List, [], ◌∷◌, ◌++◌, length, get_or, sym, subst, arith}
use Rattle.time_bounds.specs.Numbered.{EachNumbered}

-- the property of each element holds with one more, which has the property of its number
pub each_pushed : {A : Type 0} (P : ℕ → A → Type 0) (k : ℕ) (xs : List A) (x : A) → EachNumbered P k xs
    → P (k + length xs) x → EachNumbered P k (xs ++ x ∷ [])
each_pushed P k [] x h g = (subst (λ (n : ℕ). P n x) (let z : k + 0 ≡ k = omega arith in z) g, tt)
each_pushed P k (y ∷ xs) x h g = (
  h.0,
  each_pushed P (suc k) xs x h.1
      (subst (λ (n : ℕ). P n x) (let z : k + suc (length xs) ≡ suc k + length xs = omega arith in z) g),
)

-- the element at a position has the property of its number
pub each_read : {A : Type 0} (P : ℕ → A → Type 0) (k i : ℕ) (xs : List A) (x : A) → EachNumbered P k xs → i < length xs
    → x ≡ get_or xs i x → P (k + i) x
each_read P k i [] x h l e = absurd (omega (arith, l))
each_read {A} P k zero (y ∷ xs) x h l e =
    subst (λ (n : ℕ). P n x) (let z : k ≡ k + 0 = omega arith in z) (subst (λ (z : A). P k z) (sym e) h.0)
each_read P k (suc i) (y ∷ xs) x h l e =
    subst (λ (n : ℕ). P n x) (let z : suc k + i ≡ k + suc i = omega arith in z)
    (each_read P (suc k) i xs x h.1 (omega (arith, l)) e)
