-- The elements of a list, by position and by parts of the list.
use Rattle.std.proofs.Common.{◌≡◌, ℕ, zero, suc, ◌+◌, List, [], ◌∷◌, ◌++◌, length, map, Some}
use Rattle.std.proofs.Common.{refl, sym, ◌∙◌, ap, subst, arith, length-append}
use Rattle.std.specs.Prelude.{slice_get}
use Rattle.std.specs.List.{All, Contains}
use Rattle.std.proofs.lemmas.Option.{slice_get_within, get_or_from_slice_get}
use Rattle.std.proofs.lemmas.List.{get_or_append_left, get_or-append-add}
use Rattle.model.proofs.Cases.{slice_get-there}

-- the element at a position is in the list
pub contains-get : {X : Type 0} (xs : List X) (k : ℕ) (x : X) → slice_get xs k ≡ Some x → Contains xs x
contains-get xs k x h = (k, slice_get_within xs k x h, get_or_from_slice_get xs k x x h)

-- an element of a list is at some position
pub get-contains : {X : Type 0} (xs : List X) (x : X) → Contains xs x → (k : ℕ) × (slice_get xs k ≡ Some x)
get-contains {X} xs x (k, low, at) =
    let there : (y : X) × (slice_get xs k ≡ Some y) = slice_get-there xs k low in
    let same : there.0 ≡ x = sym (get_or_from_slice_get xs k there.0 x there.1) ∙ at in
    (k, there.1 ∙ ap (λ (y : X). Some y) same)

-- an element of the image of a list is the image of an element
pub contains-map : {X Y : Type 0} (f : X → Y) (xs : List X) (y : Y) → Contains (map f xs) y
    → (x : X) × Contains xs x × (f x ≡ y)
contains-map f [] y (k, low, at) = absurd (omega (arith, low))
contains-map f (x ∷ xs) y (zero, low, at) = (x, (zero, omega arith, refl), at)
contains-map f (x ∷ xs) y (suc k, low, at) = later (contains-map f xs y (k, omega (arith, low), at))
  where
    later : ((z : _) × Contains xs z × (f z ≡ y)) → (z : _) × Contains (x ∷ xs) z × (f z ≡ y)
    later (z, (j, in_rest, there), same) = (z, (suc j, omega (arith, in_rest), there), same)

-- the image of an element is in the image of the list
pub map-contains : {X Y : Type 0} (f : X → Y) (xs : List X) (x : X) → Contains xs x → Contains (map f xs) (f x)
map-contains f [] x (k, low, at) = absurd (omega (arith, low))
map-contains f (y ∷ xs) x (zero, low, at) = (zero, omega arith, ap f at)
map-contains f (y ∷ xs) x (suc k, low, at) = later (map-contains f xs x (k, omega (arith, low), at))
  where
    later : Contains (map f xs) (f x) → Contains (map f (y ∷ xs)) (f x)
    later (j, in_rest, there) = (suc j, omega (arith, in_rest), there)

-- a property of all elements of two lists joined is one of all of the first, and of all of the second
pub All-first : {X : Type 0} (P : X → Type 0) (xs ys : List X) → All P (xs ++ ys) → All P xs
All-first P xs ys h k d l = subst P (get_or_append_left xs ys d k l) (h k d (omega (arith, length-append xs ys)))

pub All-second : {X : Type 0} (P : X → Type 0) (xs ys : List X) → All P (xs ++ ys) → All P ys
All-second P xs ys h k d l =
    subst P (get_or-append-add xs ys k d) (h (length xs + k) d (omega (arith, length-append xs ys)))
