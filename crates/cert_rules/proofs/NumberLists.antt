-- Membership in appended lists of numbers and in the images of a list, and how many numbers of a list pass a test.
use Rattle.std.proofs.Common.{◌≡◌, ◌⊎◌, inl, inr, ℕ, suc, ◌≤◌, ◌==◌, Bool, true, false, cond, List, [], ◌∷◌, ◌++◌}
use Rattle.std.proofs.Common.{length, filter, filter_map, Option, Some, None, refl, sym, ap, ◌∙◌, subst, arith}
use Rattle.std.proofs.lemmas.Bool.{or_left, or_right}
use Rattle.std.proofs.lemmas.List.Elements.{Contains-append_left, Contains-append_right}
use Rattle.run_counting.specs.model.Entries.{is_in}
use Rattle.run_counting.proofs.model.Membership.{same_number, no_is_not_yes, is_in-cases, contains-is_in}
use Rattle.run_counting.proofs.model.Membership.{is_in-contained}

-- a member of one list is one of the appended lists
pub in-left : (xs ys : List ℕ) (x : ℕ) → is_in x xs ≡ true → is_in x (xs ++ ys) ≡ true
in-left xs ys x h = is_in-contained (xs ++ ys) x (Contains-append_left xs ys x (contains-is_in xs x h))

-- a member of the second list is one of the appended lists
pub in-right : (xs ys : List ℕ) (x : ℕ) → is_in x ys ≡ true → is_in x (xs ++ ys) ≡ true
in-right xs ys x h = is_in-contained (xs ++ ys) x (Contains-append_right xs ys x (contains-is_in ys x h))

-- a member of the appended lists is one of either
pub in-either : (xs ys : List ℕ) (x : ℕ) → is_in x (xs ++ ys) ≡ true → (is_in x xs ≡ true) ⊎ (is_in x ys ≡ true)
in-either [] ys x h = inr h
in-either (y ∷ xs) ys x h = go (is_in-cases x y (xs ++ ys) h) (in-either xs ys x)
  where
    later : (is_in x xs ≡ true) ⊎ (is_in x ys ≡ true) → (is_in x (y ∷ xs) ≡ true) ⊎ (is_in x ys ≡ true)
    later (inl k) = inl (or_right (x == y) (is_in x xs) k)
    later (inr k) = inr k

    go : (x ≡ y) ⊎ (is_in x (xs ++ ys) ≡ true)
        → (is_in x (xs ++ ys) ≡ true → (is_in x xs ≡ true) ⊎ (is_in x ys ≡ true))
        → (is_in x (y ∷ xs) ≡ true) ⊎ (is_in x ys ≡ true)
    go (inl e) ih = inl (or_left (x == y) (is_in x xs) (subst (λ (n : ℕ). (x == n) ≡ true) e (same_number x)))
    go (inr k) ih = later (ih k)

-- laws for the images of the numbers of a list
module _ (f : ℕ → Option ℕ) where
  -- a number among the images comes from a number of the list
  pub image-sound : (ts : List ℕ) (a : ℕ) → is_in a (filter_map f ts) ≡ true → (t : ℕ) × (is_in t ts ≡ true) × (f t ≡ Some a)
  image-sound [] a h = absurd (no_is_not_yes false refl h)
  image-sound (t ∷ ts) a h = go (f t) refl (image-sound ts a)
    where
      later : ((u : ℕ) × (is_in u ts ≡ true) × (f u ≡ Some a)) → (u : ℕ) × (is_in u (t ∷ ts) ≡ true) × (f u ≡ Some a)
      later (u, i, e) = (u, or_right (u == t) (is_in u ts) i, e)

      go : (o : Option ℕ) → f t ≡ o
          → (is_in a (filter_map f ts) ≡ true → (u : ℕ) × (is_in u ts ≡ true) × (f u ≡ Some a))
          → (u : ℕ) × (is_in u (t ∷ ts) ≡ true) × (f u ≡ Some a)
      go None e ih = later (ih (rw e at h))
      go (Some b) e ih = by (is_in-cases a b (filter_map f ts) (rw e at h))
        where
          by : (a ≡ b) ⊎ (is_in a (filter_map f ts) ≡ true) → (u : ℕ) × (is_in u (t ∷ ts) ≡ true) × (f u ≡ Some a)
          by (inl same) = (t, or_left (t == t) (is_in t ts) (same_number t), e ∙ ap Some (sym same))
          by (inr k) = later (ih k)

  -- the image of a number of the list is among the images
  pub image-in : (ts : List ℕ) (a t : ℕ) → is_in t ts ≡ true → f t ≡ Some a → is_in a (filter_map f ts) ≡ true
  image-in [] a t h e = absurd (no_is_not_yes false refl h)
  image-in (u ∷ ts) a t h e = by (is_in-cases t u ts h) (λ k. image-in ts a t k e)
    where
      later : (o : Option ℕ) → f u ≡ o → is_in a (filter_map f ts) ≡ true → is_in a (filter_map f (u ∷ ts)) ≡ true
      later None k i = rw k i
      later (Some b) k i = rw k (or_right (a == b) (is_in a (filter_map f ts)) i)

      by : (t ≡ u) ⊎ (is_in t ts ≡ true) → (is_in t ts ≡ true → is_in a (filter_map f ts) ≡ true)
          → is_in a (filter_map f (u ∷ ts)) ≡ true
      by (inl same) ih = rw (ap f (sym same) ∙ e) (or_left (a == a) (is_in a (filter_map f ts)) (same_number a))
      by (inr k) ih = later (f u) refl (ih k)

-- at most as many numbers of a list pass a test as there are
pub passing-most : (test : ℕ → Bool) (ts : List ℕ) → length (filter test ts) ≤ length ts
passing-most test [] = omega arith
passing-most test (t ∷ ts) = go (test t) refl (passing-most test ts)
  where
    go : (v : Bool) → test t ≡ v → length (filter test ts) ≤ length ts
        → length (cond v (t ∷ filter test ts) (filter test ts)) ≤ suc (length ts)
    go true e ih = omega (arith, ih)
    go false e ih = omega (arith, ih)

-- if as many numbers pass a test as there are, each passes
pub all-passing : (test : ℕ → Bool) (ts : List ℕ) → length ts ≤ length (filter test ts) → (t : ℕ) → is_in t ts ≡ true
    → test t ≡ true
all-passing test [] h t i = absurd (no_is_not_yes false refl i)
all-passing test (u ∷ ts) h t i = go (test u) refl h (is_in-cases t u ts i) (λ k. all-passing test ts k t)
  where
    go : (v : Bool) → test u ≡ v → suc (length ts) ≤ length (cond v (u ∷ filter test ts) (filter test ts))
        → (t ≡ u) ⊎ (is_in t ts ≡ true) → (length ts ≤ length (filter test ts) → is_in t ts ≡ true → test t ≡ true)
        → test t ≡ true
    go true e k (inl same) ih = ap test same ∙ e
    go true e k (inr j) ih = ih (omega (arith, k)) j
    go false e k j ih = absurd (omega (arith, k, passing-most test ts))

-- laws for two tests of which the first implies the second
module _ (p q : ℕ → Bool) (more : (t : ℕ) → p t ≡ true → q t ≡ true) where
  -- where one test implies another, no more numbers pass the first than the second
  pub passing-more : (ts : List ℕ) → length (filter p ts) ≤ length (filter q ts)
  passing-more [] = omega arith
  passing-more (t ∷ ts) = go (p t) (q t) refl refl (passing-more ts)
    where
      go : (u v : Bool) → p t ≡ u → q t ≡ v → length (filter p ts) ≤ length (filter q ts)
          → length (cond u (t ∷ filter p ts) (filter p ts)) ≤ length (cond v (t ∷ filter q ts) (filter q ts))
      go true true e f ih = omega (arith, ih)
      go true false e f ih = absurd (no_is_not_yes (q t) f (more t e))
      go false true e f ih = omega (arith, ih)
      go false false e f ih = ih

  -- if a number of the list passes only the second test, more numbers pass the second than the first
  pub passing-one_more : (ts : List ℕ) (t : ℕ) → is_in t ts ≡ true → p t ≡ false → q t ≡ true
      → suc (length (filter p ts)) ≤ length (filter q ts)
  passing-one_more [] t i before now = absurd (no_is_not_yes false refl i)
  passing-one_more (x ∷ ts) t i before now =
      go (p x) (q x) refl refl (is_in-cases t x ts i) (λ k. passing-one_more ts t k before now)
    where
      go : (u v : Bool) → p x ≡ u → q x ≡ v → (t ≡ x) ⊎ (is_in t ts ≡ true)
          → (is_in t ts ≡ true → suc (length (filter p ts)) ≤ length (filter q ts))
          → suc (length (cond u (x ∷ filter p ts) (filter p ts))) ≤ length (cond v (x ∷ filter q ts) (filter q ts))
      go true true e f (inl same) ih = absurd (no_is_not_yes (p t) before (ap p same ∙ e))
      go true true e f (inr k) ih = omega (arith, ih k)
      go true false e f k ih = absurd (no_is_not_yes (q x) f (more x e))
      go false true e f k ih = omega (arith, passing-more ts)
      go false false e f (inl same) ih = absurd (no_is_not_yes (q t) (ap q same ∙ f) now)
      go false false e f (inr k) ih = ih k
