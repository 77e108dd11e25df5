-- Sums over lists, and dot products as such sums.
use Rattle.std.proofs.Common.{◌≡◌, ℕ, zero, suc, ◌+◌, ◌<◌, ap, arith, refl, sym, ◌∙◌, Bool, true, false, cond, List, []}
use Rattle.std.proofs.Common.{◌∷◌, ◌++◌, length, map, filter}
use Rattle.std.specs.Prelude.{ℤ, pos, ◌+ℤ◌, ◌*ℤ◌}
use Rattle.std.specs.List.{range_with_len}
use Rattle.std.proofs.lemmas.Int.{ints}
use Rattle.linear_forms.specs.int_laws.Sums.{sum_to}
use Rattle.linear_forms.proofs.int_laws.RingLaws.{mul-add_ℤ, mul-zero_ℤ}
use Rattle.linear_forms.specs.Forms.{at, list_dot}
use Rattle.linear_forms.proofs.ListLaws.{sum_to-first}

-- the sum of a number for each element
abbrev pub total : {A : Type 0} → (A → ℤ) → List A → ℤ
total g [] = pos 0
total g (x ∷ xs) = g x +ℤ total g xs

-- the sum over an appended list is that over each part
pub total-append : {A : Type 0} (g : A → ℤ) (xs ys : List A) → total g (xs ++ ys) ≡ total g xs +ℤ total g ys
total-append g [] ys = nothing _
  where
    nothing : (z : ℤ) → z ≡ pos 0 +ℤ z
    nothing z = omega (arith, ints)
total-append g (x ∷ xs) ys = behind _ _ _ _ (total-append g xs ys)
  where
    behind : (a b c s : ℤ) → s ≡ b +ℤ c → a +ℤ s ≡ (a +ℤ b) +ℤ c
    behind a b c s e = omega (arith, ints, e)

-- the sum over a mapped list
pub total-map : {A B : Type 0} (g : B → ℤ) (h : A → B) (xs : List A) → total g (map h xs) ≡ total (λ x. g (h x)) xs
total-map g h [] = refl
total-map g h (x ∷ xs) = ap (λ (s : ℤ). g (h x) +ℤ s) (total-map g h xs)

-- sums of equal numbers are equal
pub total-same : {A : Type 0} (g h : A → ℤ) (xs : List A) → ((x : A) → g x ≡ h x) → total g xs ≡ total h xs
total-same g h [] e = refl
total-same g h (x ∷ xs) e = both _ _ _ _ (e x) (total-same g h xs e)
  where
    both : (a b c f : ℤ) → a ≡ b → c ≡ f → a +ℤ c ≡ b +ℤ f
    both a b c f h k = omega (arith, ints, h, k)

-- a sum of zeros is 0
pub total-none : {A : Type 0} (g : A → ℤ) (xs : List A) → ((x : A) → g x ≡ pos 0) → total g xs ≡ pos 0
total-none g [] e = refl
total-none g (x ∷ xs) e = both _ _ (e x) (total-none g xs e)
  where
    both : (a b : ℤ) → a ≡ pos 0 → b ≡ pos 0 → a +ℤ b ≡ pos 0
    both a b h k = omega (arith, ints, h, k)

-- if the numbers of the elements that are filtered out are 0, the sum doesn't change
pub total-filter : {A : Type 0} (g : A → ℤ) (test : A → Bool) (xs : List A) → ((x : A) → test x ≡ false → g x ≡ pos 0)
    → total g (filter test xs) ≡ total g xs
total-filter g test [] e = refl
total-filter g test (x ∷ xs) e = go (test x) refl (total-filter g test xs e)
  where
    go : (b : Bool) → test x ≡ b → total g (filter test xs) ≡ total g xs
        → total g (cond b (x ∷ filter test xs) (filter test xs)) ≡ g x +ℤ total g xs
    go true h k = ap (λ (s : ℤ). g x +ℤ s) k
    go false h k = left_out _ _ _ (e x h) k
      where
        left_out : (a s t : ℤ) → a ≡ pos 0 → s ≡ t → s ≡ a +ℤ t
        left_out a s t h k = omega (arith, ints, h, k)

-- the sum over a range from b on is a sum over the first indices
pub total-range : (g : ℕ → ℤ) (b n : ℕ) → total g (range_with_len b n) ≡ sum_to n (λ j. g (b + j))
total-range g b zero = refl
total-range g b (suc n) =
    behind _ _ _ _ (ap g (plus_zero b)) (total-range g (b + 1) n ∙ shifted n)
    ∙ sym (sum_to-first n (λ j. g (b + j)))
  where
    plus_zero : (b : ℕ) → b ≡ b + 0
    plus_zero b = omega arith

    behind : (a c s t : ℤ) → a ≡ c → s ≡ t → a +ℤ s ≡ c +ℤ t
    behind a c s t e f = omega (arith, ints, e, f)

    shifted : (n : ℕ) → sum_to n (λ j. g (b + 1 + j)) ≡ sum_to n (λ j. g (b + suc j))
    shifted zero = refl
    shifted (suc n) = behind _ _ _ _ (shifted n) (ap g (next n))
      where
        next : (n : ℕ) → b + 1 + n ≡ b + suc n
        next n = omega arith

-- the dot product of a mapped list with numbers of its elements is a sum over the list
pub dot-total : {A : Type 0} (g h : A → ℤ) (xs : List A)
    → list_dot (map g xs) (at (map h xs)) ≡ total (λ x. g x *ℤ h x) xs
dot-total g h [] = refl
dot-total g h (x ∷ xs) = ap (λ (s : ℤ). g x *ℤ h x +ℤ s) (dot-total g h xs)

-- the dot product with a sum is the sum of the dot products
pub dot-add : (xs : List ℤ) (v w : ℕ → ℤ) → list_dot xs (λ j. v j +ℤ w j) ≡ list_dot xs v +ℤ list_dot xs w
dot-add [] v w = refl
dot-add (x ∷ xs) v w =
    split _ (x *ℤ v 0) (x *ℤ w 0) _ (list_dot xs (λ j. v (suc j))) (list_dot xs (λ j. w (suc j)))
    (mul-add_ℤ x (v 0) (w 0)) (dot-add xs (λ j. v (suc j)) (λ j. w (suc j)))
  where
    split : (p a b s c d : ℤ) → p ≡ a +ℤ b → s ≡ c +ℤ d → p +ℤ s ≡ (a +ℤ c) +ℤ (b +ℤ d)
    split p a b s c d e f = omega (arith, ints, e, f)

-- the dot product with zeros is 0
pub dot-none : (xs : List ℤ) (v : ℕ → ℤ) → ((j : ℕ) → v j ≡ pos 0) → list_dot xs v ≡ pos 0
dot-none [] v h = refl
dot-none (x ∷ xs) v h = both _ _ (mul-zero_ℤ x _ (h 0)) (dot-none xs (λ j. v (suc j)) (λ j. h (suc j)))
  where
    both : (a b : ℤ) → a ≡ pos 0 → b ≡ pos 0 → a +ℤ b ≡ pos 0
    both a b h k = omega (arith, ints, h, k)

-- the dot product with numbers that are all 0 but one is a single term
pub dot-one : (xs : List ℤ) (k : ℕ) (v : ℕ → ℤ) → ((j : ℕ) → (j ≡ k → ⊥) → v j ≡ pos 0) → list_dot xs v ≡ at xs k *ℤ v k
dot-one [] k v h = none (v k)
  where
    none : (x : ℤ) → pos 0 ≡ pos 0 *ℤ x
    none x = omega (arith, ints)
dot-one (x ∷ xs) zero v h = alone _ _ (dot-none xs (λ j. v (suc j)) (λ j. h (suc j) (λ e. omega (arith, e))))
  where
    alone : (a b : ℤ) → b ≡ pos 0 → a +ℤ b ≡ a
    alone a b e = omega (arith, ints, e)
dot-one (x ∷ xs) (suc k) v h =
    behind _ _ _ (mul-zero_ℤ x _ (h 0 (λ e. omega (arith, e))))
    (dot-one xs k (λ j. v (suc j)) (λ j f. h (suc j) (λ e. f (omega (arith, e)))))
  where
    behind : (a b c : ℤ) → a ≡ pos 0 → b ≡ c → a +ℤ b ≡ c
    behind a b c e f = omega (arith, ints, e, f)

-- dot products with numbers that agree along the list are equal
pub dot-agree : (xs : List ℤ) (v w : ℕ → ℤ) → ((j : ℕ) → j < length xs → v j ≡ w j) → list_dot xs v ≡ list_dot xs w
dot-agree [] v w h = refl
dot-agree (x ∷ xs) v w h =
    both _ _ _ _ (ap (λ (z : ℤ). x *ℤ z) (h 0 (omega arith)))
    (dot-agree xs (λ j. v (suc j)) (λ j. w (suc j)) (λ j l. h (suc j) (omega (arith, l))))
  where
    both : (a b c f : ℤ) → a ≡ b → c ≡ f → a +ℤ c ≡ b +ℤ f
    both a b c f h k = omega (arith, ints, h, k)
