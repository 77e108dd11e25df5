-- Membership in lists, by recursion: in an appended list, in an image, and at a position.
use Rattle.std.proofs.Common.{◌≡◌, ◌⊎◌, inl, inr, ℕ, zero, suc, List, [], ◌∷◌, ◌++◌, map, Some}
use Rattle.std.proofs.Common.{refl, sym, ap, slice_get}
use Rattle.model.proofs.Cases.{none_some, some_same}

-- x is an element of the list.
abbrev pub IsIn : {X : Type 0} → X → List X → Type 0
IsIn x [] = ⊥
IsIn x (y ∷ ys) = (x ≡ y) ⊎ IsIn x ys

-- The elements of two lists one after the other are the elements of the first and those of the second.
pub is_in-left : {X : Type 0} (x : X) (xs ys : List X) → IsIn x xs → IsIn x (xs ++ ys)
is_in-left x [] ys h = absurd h
is_in-left x (y ∷ xs) ys (inl e) = inl e
is_in-left x (y ∷ xs) ys (inr h) = inr (is_in-left x xs ys h)

pub is_in-right : {X : Type 0} (x : X) (xs ys : List X) → IsIn x ys → IsIn x (xs ++ ys)
is_in-right x [] ys h = h
is_in-right x (y ∷ xs) ys h = inr (is_in-right x xs ys h)

pub is_in-append : {X : Type 0} (x : X) (xs ys : List X) → IsIn x (xs ++ ys) → IsIn x xs ⊎ IsIn x ys
is_in-append x [] ys h = inr h
is_in-append x (y ∷ xs) ys (inl e) = inl (inl e)
is_in-append x (y ∷ xs) ys (inr h) = further (is_in-append x xs ys h)
  where
    further : IsIn x xs ⊎ IsIn x ys → ((x ≡ y) ⊎ IsIn x xs) ⊎ IsIn x ys
    further (inl here) = inl (inr here)
    further (inr there) = inr there

-- The elements of an image are the images of the elements.
pub is_in-map : {X Y : Type 0} (f : X → Y) (x : X) (xs : List X) → IsIn x xs → IsIn (f x) (map f xs)
is_in-map f x [] h = absurd h
is_in-map f x (y ∷ xs) (inl e) = inl (ap f e)
is_in-map f x (y ∷ xs) (inr h) = inr (is_in-map f x xs h)

pub map-is_in : {X Y : Type 0} (f : X → Y) (y : Y) (xs : List X) → IsIn y (map f xs) → (x : X) × IsIn x xs × (y ≡ f x)
map-is_in f y [] h = absurd h
map-is_in f y (x ∷ xs) (inl e) = (x, inl refl, e)
map-is_in f y (x ∷ xs) (inr h) = further (map-is_in f y xs h)
  where
    further : (z : _) × IsIn z xs × (y ≡ f z) → (z : _) × IsIn z (x ∷ xs) × (y ≡ f z)
    further (z, there, e) = (z, inr there, e)

-- Each element is at some position, and what is at a position is an element.
pub position_of : {X : Type 0} (x : X) (xs : List X) → IsIn x xs → (i : ℕ) × (slice_get xs i ≡ Some x)
position_of x [] h = absurd h
position_of x (y ∷ xs) (inl e) = (0, ap (λ z. Some z) (sym e))
position_of x (y ∷ xs) (inr h) = further (position_of x xs h)
  where
    further : (i : ℕ) × (slice_get xs i ≡ Some x) → (i : ℕ) × (slice_get (y ∷ xs) i ≡ Some x)
    further (i, there) = (suc i, there)

pub is_in-at : {X : Type 0} (x : X) (xs : List X) (i : ℕ) → slice_get xs i ≡ Some x → IsIn x xs
is_in-at x [] i e = absurd (none_some x e)
is_in-at x (y ∷ xs) zero e = inl (sym (some_same y x e))
is_in-at x (y ∷ xs) (suc i) e = inr (is_in-at x xs i e)
