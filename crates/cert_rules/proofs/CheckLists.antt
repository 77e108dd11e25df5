-- Lists of checks: when all pass, the first that fails, and checks for each element of a list.
use Rattle.std.proofs.Common.{◌≡◌, ◌⊎◌, inl, inr, ℕ, ◌<◌, ◌==◌, Bool, true, false, List, [], ◌∷◌, ◌++◌, map, filter}
use Rattle.std.proofs.Common.{refl, sym, ◌∙◌, subst}
use Rattle.std.specs.List.{AllByRecursion, range_with_len}
use Rattle.run_counting.specs.model.Entries.{is_in}
use Rattle.cert_rules.specs.Reasons.{CheckOf, for_each, AllPass, IsFirstAmong}
use Rattle.run_counting.proofs.model.Membership.{same_number, no_is_not_yes, is_in-cases, is_in-filter, filter-in}
use Rattle.run_counting.proofs.model.Membership.{is_in-numbers}
use Rattle.std.proofs.lemmas.Bool.{or_left, or_right}

-- if all checks pass, there is no first reason
pub passed_has_none : {R : Type 0} (cs : List (CheckOf R)) → AllPass cs → (r : R) → ¬ (IsFirstAmong cs r)
passed_has_none [] h r k = k
passed_has_none (c ∷ cs) h r (inl k) = k.0 h.0
passed_has_none (c ∷ cs) h r (inr k) = passed_has_none cs h.1 r k.1

-- there is at most one first reason
pub first_is_one : {R : Type 0} (cs : List (CheckOf R)) (q r : R) → IsFirstAmong cs q → IsFirstAmong cs r → q ≡ r
first_is_one [] q r h k = absurd h
first_is_one (c ∷ cs) q r (inl h) (inl k) = sym h.1 ∙ k.1
first_is_one (c ∷ cs) q r (inl h) (inr k) = absurd (h.0 k.0)
first_is_one (c ∷ cs) q r (inr h) (inl k) = absurd (k.0 h.0)
first_is_one (c ∷ cs) q r (inr h) (inr k) = first_is_one cs q r h.1 k.1

module _ {R A : Type 0} (f : A → CheckOf R) (rest : List (CheckOf R)) where
  -- if the checks for all elements and then the others pass, the check of each element holds, and the others pass
  pub each_passes : (xs : List A) → AllPass (for_each f xs rest) → AllByRecursion (λ x. (f x).holds) xs × AllPass rest
  each_passes [] h = (tt, h)
  each_passes (x ∷ xs) h = let k = each_passes xs h.1 in ((h.0, k.0), k.1)

  -- if the check of each element holds and the others pass, the checks for all elements and then the others pass
  pub passes_each : (xs : List A) → AllByRecursion (λ x. (f x).holds) xs → AllPass rest → AllPass (for_each f xs rest)
  passes_each [] h k = k
  passes_each (x ∷ xs) h k = (h.0, passes_each xs h.1 k)

-- two ways to say that each number of a list has a property
module _ (P : ℕ → Type 0) where
  -- a property of all numbers of a list is one of each number that the test finds in it
  pub each-in : (xs : List ℕ) → AllByRecursion P xs → (x : ℕ) → is_in x xs ≡ true → P x
  each-in [] h x k = absurd (no_is_not_yes false refl k)
  each-in (y ∷ ys) h x k = go (is_in-cases x y ys k) (λ m. each-in ys h.1 x m)
    where
      go : (x ≡ y) ⊎ (is_in x ys ≡ true) → (is_in x ys ≡ true → P x) → P x
      go (inl e) later = subst P (sym e) h.0
      go (inr m) later = later m

  -- a property of each number that the test finds in a list is one of all of them
  pub in-each : (xs : List ℕ) → ((x : ℕ) → is_in x xs ≡ true → P x) → AllByRecursion P xs
  in-each [] h = tt
  in-each (y ∷ ys) h = (
    h y (or_left (y == y) (is_in y ys) (same_number y)),
    in-each ys (λ x k. h x (or_right (x == y) (is_in x ys) k)),
  )

-- a property of each of two lists is one of the appended list
pub each-append : {A : Type 0} (P : A → Type 0) (xs ys : List A) → AllByRecursion P xs → AllByRecursion P ys
    → AllByRecursion P (xs ++ ys)
each-append P [] ys h k = k
each-append P (x ∷ xs) ys h k = (h.0, each-append P xs ys h.1 k)

-- a property of an appended list is one of each of the two
pub append-each : {A : Type 0} (P : A → Type 0) (xs ys : List A) → AllByRecursion P (xs ++ ys)
    → AllByRecursion P xs × AllByRecursion P ys
append-each P [] ys h = (tt, h)
append-each P (x ∷ xs) ys h = let k = append-each P xs ys h.1 in ((h.0, k.0), k.1)

-- a property of the images of a list is one of each element's image
pub map-each : {A B : Type 0} (P : B → Type 0) (f : A → B) (xs : List A) → AllByRecursion P (map f xs)
    → AllByRecursion (λ x. P (f x)) xs
map-each P f [] h = tt
map-each P f (x ∷ xs) h = (h.0, map-each P f xs h.1)

-- a property of each element's image is one of all images
pub each-map : {A B : Type 0} (P : B → Type 0) (f : A → B) (xs : List A) → AllByRecursion (λ x. P (f x)) xs
    → AllByRecursion P (map f xs)
each-map P f [] h = tt
each-map P f (x ∷ xs) h = (h.0, each-map P f xs h.1)

-- two ways to say that each number among the first n that passes a test has a property
module _ (P : ℕ → Type 0) (test : ℕ → Bool) (n : ℕ) where
  -- a property of all numbers below a count that pass a test is one of each such number
  pub below-each : AllByRecursion P (filter test (range_with_len 0 n)) → (j : ℕ) → j < n → test j ≡ true → P j
  below-each h j l k = each-in P (filter test (range_with_len 0 n)) h j
      (is_in-filter test (range_with_len 0 n) j (is_in-numbers n j l) k)

  -- a property of each number that passes a test is one of all those below a count
  pub each-below : ((j : ℕ) → test j ≡ true → P j) → AllByRecursion P (filter test (range_with_len 0 n))
  each-below h = in-each P (filter test (range_with_len 0 n))
      (λ j k. let m = filter-in test (range_with_len 0 n) j k in h j m.1)

-- a property of one number is one of each number in the list of it; and the same of two numbers
pub of_one : (P : ℕ → Type 0) (a : ℕ) → P a → (t : ℕ) → is_in t (a ∷ []) ≡ true → P t
of_one P a h = each-in P (a ∷ []) (h, tt)

pub of_two : (P : ℕ → Type 0) (a b : ℕ) → P a → P b → (t : ℕ) → is_in t (a ∷ b ∷ []) ≡ true → P t
of_two P a b h i = each-in P (a ∷ b ∷ []) (h, (i, tt))
