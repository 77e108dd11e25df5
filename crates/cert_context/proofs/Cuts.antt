-- Lists split at a position: the elements before it, the element at it, and the rest.
use Rattle.std.proofs.Common.{◌≡◌, ℕ, zero, suc, subst, ◌+◌, ◌<◌, ◌≤◌, List, [], ◌∷◌, ◌++◌, length, map, take, drop, get_or, sym, ap}
use Rattle.std.proofs.Common.{◌∙◌, arith}
use Rattle.std.specs.List.{AllByRecursion}
use Rattle.std.proofs.lemmas.List.{map-append, take-append-drop, drop_more, map_more, length-map, length-take, take_all}

module _ {A B : Type 0} (f : A → B) (xs : List A) where
  module _ (i : ℕ) (x : A) (l : i < length xs) (e : x ≡ get_or xs i x) where
    -- the images of the elements before a position, of the element at it, and of the rest
    pub cut-at : map f xs ≡ map f (take i xs) ++ f x ∷ map f (drop (i + 1) xs)
    cut-at =
        ap (map f) (sym (take-append-drop i xs))
        ∙ (map-append f (take i xs) (drop i xs)
        ∙ (ap (λ (ys : List A). map f (take i xs) ++ map f ys) (drop_more xs i x l)
        ∙ ap (λ (y : A). map f (take i xs) ++ f y ∷ map f (drop (i + 1) xs)) (sym e)))

    -- the images before the next position are those before this one, and that of the element at it
    pub done-more : map f (take (i + 1) xs) ≡ map f (take i xs) ++ f x ∷ []
    done-more = map_more f xs i x l ∙ ap (λ (y : A). map f (take i xs) ++ f y ∷ []) (sym e)

  -- at the end of a list, the images before the position are all images
  pub done-all : (i : ℕ) → length xs ≤ i → map f (take i xs) ≡ map f xs
  done-all i l = ap (map f) (take_all i xs l)

  -- the images before a position are as many as the position
  pub done-count : (i : ℕ) → i ≤ length xs → length (map f (take i xs)) ≡ i
  done-count i l = length-map (take i xs) f ∙ (let k = length-take i xs in omega (arith, k, l))

-- a property of all images is one of the image of the element at a position
pub each-at : {A B : Type 0} (f : A → B) (P : B → Type 0) (xs : List A) (i : ℕ) (x : A) → i < length xs
    → x ≡ get_or xs i x → AllByRecursion P (map f xs) → P (f x)
each-at f P [] i x l e h = absurd (omega (arith, l))
each-at f P (y ∷ xs) zero x l e h = subst (λ z. P (f z)) (sym e) h.0
each-at f P (y ∷ xs) (suc i) x l e h = each-at f P xs i x (omega (arith, l)) e h.1
