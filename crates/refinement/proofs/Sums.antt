-- Sums and maxima over the rules of a list.
use Rattle.std.proofs.Common.{◌≡◌, ◌≢◌, ◌⊎◌, inl, inr, true, false, ◌==◌, ℕ, zero, suc, ◌+◌, ◌≤◌, List, [], ◌∷◌}
use Rattle.std.proofs.Common.{if◌then◌else◌, refl, sym, ap, arith}
use Rattle.std.specs.List.{All, Contains}
use Rattle.std.proofs.lemmas.Bool.Decides.{eqb_tells}
use Rattle.std.proofs.lemmas.List.Elements.{All-head, All-tail}
use Rattle.model.specs.Bounds.{Bound, val, val_sum, val_maximum}
use Rattle.refinement.specs.Lifted.{parts_of}

-- the sum of a function's values at the elements of a list
abbrev pub sum_over : (ℕ → ℕ) → List ℕ → ℕ
sum_over f [] = 0
sum_over f (t ∷ ts) = f t + sum_over f ts

-- the function f, with a weight added at rule s
abbrev pub one_more : ℕ → ℕ → (ℕ → ℕ) → ℕ → ℕ
one_more weight s f t = (if s == t then weight else 0) + f t

-- at rule s itself the weight is added
one_more-same : (weight s t : ℕ) (f : ℕ → ℕ) → s ≡ t → one_more weight s f t ≡ weight + f t
one_more-same weight s t f e = go (eqb_tells s t)
  where
    go : ((s == t) ≡ true) × (s ≡ t) ⊎ ((s == t) ≡ false) × (s ≢ t) → one_more weight s f t ≡ weight + f t
    go (inl (test, same)) = rw test refl
    go (inr (test, other)) = absurd (other e)

-- the function with the weight added is nowhere less
one_more-at_least : (weight s t : ℕ) (f : ℕ → ℕ) → f t ≤ one_more weight s f t
one_more-at_least weight s t f = omega arith

-- a sum is not less with the weight added
pub sum-at_least : (weight s : ℕ) (f : ℕ → ℕ) (ts : List ℕ) → sum_over f ts ≤ sum_over (one_more weight s f) ts
sum-at_least weight s f [] = omega arith
sum-at_least weight s f (t ∷ ts) = omega (arith, one_more-at_least weight s t f, sum-at_least weight s f ts)

-- a sum over a list that contains rule s rises by at least the weight
pub sum-with : (weight s : ℕ) (f : ℕ → ℕ) (ts : List ℕ) → Contains ts s
    → weight + sum_over f ts ≤ sum_over (one_more weight s f) ts
sum-with weight s f [] (k, low, at) = absurd (omega (arith, low))
sum-with weight s f (t ∷ ts) (zero, low, at) =
    omega (arith, one_more-same weight s t f (sym at), sum-at_least weight s f ts)
sum-with weight s f (t ∷ ts) (suc k, low, at) =
    omega (arith, one_more-at_least weight s t f, sum-with weight s f ts (k, omega (arith, low), at))

-- if each value is at most its bound, the sum of the values is at most that of the bounds
pub sum-within : (f : ℕ → ℕ) (bound : ℕ → Bound) (m : List ℕ) (ts : List ℕ) → All (λ t. f t ≤ val (bound t) m) ts
    → sum_over f ts ≤ val_sum (parts_of bound ts) m
sum-within f bound m [] h = omega arith
sum-within f bound m (t ∷ ts) h =
    let P : ℕ → Type 0 = λ (t : ℕ). f t ≤ val (bound t) m in
    let first : f t ≤ val (bound t) m = All-head P t ts h in
    omega (arith, first, sum-within f bound m ts (All-tail P t ts h))

-- a bound of the list is at most the maximum of the bounds
pub maximum-over : (bound : ℕ → Bound) (m : List ℕ) (ts : List ℕ) (s : ℕ) → Contains ts s
    → val (bound s) m ≤ val_maximum (parts_of bound ts) m
maximum-over bound m [] s (k, low, at) = absurd (omega (arith, low))
maximum-over bound m (t ∷ ts) s (zero, low, at) = omega (arith, ap (λ (n : ℕ). val (bound n) m) at)
maximum-over bound m (t ∷ ts) s (suc k, low, at) = omega (arith, maximum-over bound m ts s (k, omega (arith, low), at))
