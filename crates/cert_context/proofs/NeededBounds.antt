-- Bounds that are needed: which are known, and the first that isn't.
use Rattle.std.proofs.Common.{◌≡◌, ◌↔◌, ℕ, zero, suc, ◌+◌, ◌<◌, ◌≤◌, true, false, List, [], ◌∷◌, length, map, take, get_or}
use Rattle.std.proofs.Common.{Option, Some, None, inl, inr, refl, sym, ◌∙◌, subst, arith}
use Rattle.std.proofs.lemmas.List.{get_or_default}
use Rattle.std.specs.Bool.{IsTrue}
use Rattle.std.specs.List.{All, AllByRecursion}
use Rattle.std.proofs.lemmas.List.Elements.{All-head, All-tail, All-push, recursion_from_All}
use Rattle.model.specs.Bounds.{Bound}
use Rattle.gap_checks.specs.GapTests.{IsFirstFailing}
use Rattle.cert_types.specs.cert_rules.Known.{IsKnown}
use Rattle.cert_context.proofs.Cuts.{done-more, done-all}

-- a bound that was found is known, and an absent bound isn't
pub known-found : (o : Option Bound) (b : Bound) → Some b ≡ o → IsTrue true ↔ IsKnown o
known-found o b e = (λ t. (b, sym e), λ k. refl)

pub known-none : (o : Option Bound) → None ≡ o → IsTrue false ↔ IsKnown o
known-none o e = (λ t. absurd (let no : ⊥ = cc in no), λ k. absurd (differ k.0 (e ∙ k.1)))
  where
    differ : (b : Bound) → None ≡ Some b → ⊥
    differ b h = cc

-- if the elements before a position have a property, and the one at it has, so have those up to it
pub has-more : {A B : Type 0} (f : A → B) (P : B → Type 0) (xs : List A) (i : ℕ) (d : A) → i < length xs
    → All P (map f (take i xs)) → P (f (get_or xs i d)) → All P (map f (take (i + 1) xs))
has-more f P xs i d l h k =
    subst (All P) (sym (done-more f xs i (get_or xs i d) l (get_or_default xs i d (get_or xs i d) l)))
    (All-push P (map f (take i xs)) (f (get_or xs i d)) h k)

-- if the elements before a position have a property, and the one at it hasn't, it is the first without it
pub lacks-first : {A B : Type 0} (f : A → B) (P : B → Type 0) (xs : List A) (i : ℕ) (d : A) → i < length xs
    → All P (map f (take i xs)) → ¬ (P (f (get_or xs i d))) → IsFirstFailing P (map f xs) (f (get_or xs i d))
lacks-first f P [] i d l h n = absurd (omega (arith, l))
lacks-first f P (y ∷ xs) zero d l h n = inl (n, refl)
lacks-first f P (y ∷ xs) (suc i) d l h n =
    inr (
      All-head P (f y) (map f (take i xs)) h,
      lacks-first f P xs i d (omega (arith, l)) (All-tail P (f y) (map f (take i xs)) h) n,
    )

-- the image of the element at a position is the first that fails, if it fails and all before it hold
pub lacks-here : {A B : Type 0} (f : A → B) (P : B → Type 0) (xs : List A) (i : ℕ) (x : A) → i < length xs
    → x ≡ get_or xs i x → All P (map f (take i xs)) → ¬ (P (f x)) → IsFirstFailing P (map f xs) (f x)
lacks-here f P xs i x l e h n =
    subst (λ y. IsFirstFailing P (map f xs) (f y)) (sym e)
    (lacks-first f P xs i x l h (subst (λ y. ¬ (P (f y))) e n))

-- if the elements before the end have a property, all have it
pub has-all : {A B : Type 0} (f : A → B) (P : B → Type 0) (xs : List A) (i : ℕ) → length xs ≤ i → All P (map f (take i xs))
    → AllByRecursion P (map f xs)
has-all f P xs i l h = recursion_from_All P (map f xs) (subst (All P) (done-all f xs i l) h)
