-- How many elements pass a test, by the first of them.
use Rattle.std.proofs.Common.{◌≡◌, ◌⊎◌, ℕ, ◌+◌, ◌<◌, Bool, cond, List, ◌∷◌, sym, subst}
use Rattle.std.specs.List.{count_by}
use Rattle.std.proofs.lemmas.List.Sums.{sum_by-cons}

-- how many pass, by whether the first does
pub count-first : {A : Type 0} (test : A → Bool) (x : A) (xs : List A)
    → count_by test (x ∷ xs) ≡ cond (test x) 1 0 + count_by test xs
count-first test x xs = sum_by-cons (λ y. cond (test y) 1 0) x xs

-- two counts compare as they do by their first elements
pub counts-first : {A : Type 0} (a b : A → Bool) (x : A) (xs : List A) (Same : Type 0)
    → (cond (a x) 1 0 + count_by a xs < cond (b x) 1 0 + count_by b xs)
    ⊎ ((cond (a x) 1 0 + count_by a xs ≡ cond (b x) 1 0 + count_by b xs) × Same)
    → (count_by a (x ∷ xs) < count_by b (x ∷ xs)) ⊎ ((count_by a (x ∷ xs) ≡ count_by b (x ∷ xs)) × Same)
counts-first a b x xs Same h =
    subst (λ (n : ℕ). (n < count_by b (x ∷ xs)) ⊎ ((n ≡ count_by b (x ∷ xs)) × Same)) (sym (count-first a x xs))
    (subst (λ (n : ℕ). (cond (a x) 1 0 + count_by a xs < n) ⊎ ((cond (a x) 1 0 + count_by a xs ≡ n) × Same))
    (sym (count-first b x xs)) h)
