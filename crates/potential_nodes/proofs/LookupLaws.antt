-- Elements found by a key, and by a number.
use Rattle.std.proofs.Common.{◌≡◌, ◌≢◌, ◌⊎◌, inl, inr, ℕ, zero, suc, ◌==◌, Bool, true, false, List, [], ◌∷◌, ◌++◌}
use Rattle.std.proofs.Common.{Option, Some, None, refl, sym, ◌∙◌, ap, subst, map, filter}
use Rattle.std.specs.Prelude.{slice_get, ◌&&◌}
use Rattle.std.specs.List.{AllByRecursion}
use Rattle.std.proofs.lemmas.Bool.{true≢false}
use Rattle.std.proofs.lemmas.Bool.Decides.{eqb_tells}
use Rattle.potentials.proofs.model.Cases.{none_some, some_same}
use Rattle.potential_nodes.specs.Lookup.{lookup, is_there, numbered}

-- if a conjunction holds, both parts do
pub both-hold : (a b : Bool) → (a && b) ≡ true → (a ≡ true) × (b ≡ true)
both-hold true b h = (refl, h)
both-hold false b h = absurd (true≢false (sym h))

-- a value that is there is some value
pub is_there-some : {A : Type 0} (o : Option A) → is_there o ≡ true → (x : A) × (o ≡ Some x)
is_there-some None h = absurd (true≢false (sym h))
is_there-some (Some x) h = (x, refl)

-- an element that is found passes what all elements pass, and has the key
pub lookup-all : {A : Type 0} (key : A → ℕ) (P : A → Type 0) (n : ℕ) (xs : List A) (x : A) → lookup key n xs ≡ Some x
    → AllByRecursion P xs → P x × (key x ≡ n)
lookup-all key P n [] x found all = absurd (none_some x found)
lookup-all key P n (y ∷ ys) x found (first, others) =
    go (eqb_tells (key y) n) (λ f. lookup-all key P n ys x f others)
  where
    go : ((key y == n) ≡ true) × (key y ≡ n) ⊎ ((key y == n) ≡ false) × (key y ≢ n)
        → (lookup key n ys ≡ Some x → P x × (key x ≡ n)) → P x × (key x ≡ n)
    go (inl (test, same)) ih =
        let e = some_same y x (rw test at found) in (subst P e first, ap key (sym e) ∙ same)
    go (inr (test, other)) ih = ih (rw test at found)

-- a property of all elements of an image is one of each element's image
pub all-map : {A B : Type 0} (f : A → B) (P : B → Type 0) (xs : List A) → AllByRecursion P (map f xs)
    → AllByRecursion (λ x. P (f x)) xs
all-map f P [] all = tt
all-map f P (x ∷ xs) (first, others) = (first, all-map f P xs others)

-- a property of all elements of two lists joined is one of all elements of each
pub all-append : {A : Type 0} (P : A → Type 0) (xs ys : List A) → AllByRecursion P (xs ++ ys)
    → AllByRecursion P xs × AllByRecursion P ys
all-append P [] ys all = (tt, all)
all-append P (x ∷ xs) ys (first, others) = let both = all-append P xs ys others in ((first, both.0), both.1)

-- a property that another one implies holds of all elements that have the other
pub all-weaker : {A : Type 0} (P Q : A → Type 0) → ((x : A) → P x → Q x) → (xs : List A) → AllByRecursion P xs
    → AllByRecursion Q xs
all-weaker P Q h [] all = tt
all-weaker P Q h (x ∷ xs) (first, others) = (h x first, all-weaker P Q h xs others)

-- two properties of all elements are one of each element: both
pub all-both : {A : Type 0} (P Q : A → Type 0) (xs : List A) → AllByRecursion P xs → AllByRecursion Q xs
    → AllByRecursion (λ x. P x × Q x) xs
all-both P Q [] all all' = tt
all-both P Q (x ∷ xs) (first, others) (first', others') = ((first, first'), all-both P Q xs others others')

-- a property of all elements is one of those that pass a test
pub all-filter : {A : Type 0} (P : A → Type 0) (test : A → Bool) (xs : List A) → AllByRecursion P xs
    → AllByRecursion (λ x. P x × (test x ≡ true)) (filter test xs)
all-filter P test [] all = tt
all-filter P test (x ∷ xs) (first, others) = go (test x) refl (all-filter P test xs others)
  where
    go : (v : Bool) → test x ≡ v → AllByRecursion (λ x. P x × (test x ≡ true)) (filter test xs)
        → AllByRecursion (λ x. P x × (test x ≡ true)) (filter test (x ∷ xs))
    go true e ih = rw e ((first, e), ih)
    go false e ih = rw e ih

-- a property of all elements is one of the element at a position
pub all-at : {A : Type 0} (P : A → Type 0) (xs : List A) (i : ℕ) (x : A) → slice_get xs i ≡ Some x
    → AllByRecursion P xs → P x
all-at P [] i x found all = absurd (none_some x found)
all-at P (y ∷ ys) zero x found (first, others) = subst P (some_same y x found) first
all-at P (y ∷ ys) (suc i) x found (first, others) = all-at P ys i x found others

pub all-numbered : {A : Type 0} (P : A → Type 0) (xs : List A) (n : ℕ) (x : A) → numbered xs n ≡ Some x
    → AllByRecursion P xs → P x
all-numbered P xs zero x found all = absurd (none_some x found)
all-numbered P xs (suc n) x found all = all-at P xs n x found all
