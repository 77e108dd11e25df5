-- Elements that are found by their numbers.
use Rattle.std.proofs.Common.{◌≡◌, ℕ, zero, suc, ◌-◌, ◌<◌, ◌≤◌, List, [], ◌∷◌, length, get_or, map, Option, Some, None}
use Rattle.std.proofs.Common.{Bor, refl, sym, ap, ◌∙◌, subst, arith}
use Rattle.std.specs.Prelude.{slice_get, option_map}
use Rattle.std.specs.Slice.{IsItemAt}
use Rattle.potential_nodes.specs.Lookup.{numbered}

-- the element at a position of a mapped list is the image of that at the position
mapped-get : {A B : Type 0} (f : A → B) (xs : List A) (i : ℕ) (x : A) → i < length xs → x ≡ get_or xs i x
    → slice_get (map f xs) i ≡ Some (f x)
mapped-get f [] i x h e = absurd (omega (arith, h))
mapped-get f (y ∷ xs) zero x h e = ap (λ z. Some (f z)) (sym e)
mapped-get f (y ∷ xs) (suc i) x h e = mapped-get f xs i x (omega (arith, h)) e

-- past the end of a list there is no element
get-past : {A B : Type 0} (f : A → B) (xs : List A) (i : ℕ) → length xs ≤ i → slice_get (map f xs) i ≡ None
get-past f [] i h = refl
get-past f (y ∷ xs) zero h = absurd (omega (arith, h))
get-past f (y ∷ xs) (suc i) h = get-past f xs i (omega (arith, h))

-- the element at a position of the image of a list is the image of the element at it
pub get-map : {A B : Type 0} (f : A → B) (xs : List A) (i : ℕ) → slice_get (map f xs) i ≡ option_map f (slice_get xs i)
get-map f [] i = refl
get-map f (y ∷ xs) zero = refl
get-map f (y ∷ xs) (suc i) = get-map f xs i

-- the element at a position one less than a number, from 1 on, is the element with that number
pub item-numbered : {A B : Type 0} (f : A → B) (xs : List A) (n : ℕ) (o : Option (Bor A)) → 0 < n
    → IsItemAt xs (n - 1) o → option_map (λ r. f r.now) o ≡ numbered (map f xs) n
item-numbered f xs zero o low h = absurd (omega (arith, low))
item-numbered f xs (suc t) None low h =
    let g : suc t - 1 ≡ t = omega arith in
    sym (get-past f xs t (omega (arith, g, h.3)))
item-numbered {A} f xs (suc t) (Some r) low h =
    let g : suc t - 1 ≡ t = omega arith in
    sym (mapped-get f xs t r.now (omega (arith, g, h.3.0)) (subst (λ (i : ℕ). r.now ≡ get_or xs i r.now) g h.1))
