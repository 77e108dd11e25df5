-- A step of a loop over a list that contracts read by a map, and predicates that hold of all elements.
use Rattle.std.proofs.Common.{◌≡◌, ℕ, zero, suc, ◌+◌, ◌<◌, length, drop, get_or, List, [], ◌∷◌, map, ap, sym, ◌∙◌}
use Rattle.std.proofs.Common.{refl, subst, arith}
use Rattle.std.specs.Prelude.{Some, None, slice_get}
use Rattle.std.specs.List.{All, AllByRecursion}
use Rattle.std.proofs.lemmas.List.{drop_more}

-- The elements from i on begin with x, the one at i.
pub mapped-from : {X Y : Type 0} (f : X → Y) (xs : List X) (i : ℕ) (x : X) → i < length xs → x ≡ get_or xs i x
    → map f (drop i xs) ≡ f x ∷ map f (drop (i + 1) xs)
mapped-from {X} f xs i x l e = ap (map f) (drop_more xs i x l) ∙ ap (λ (y : X). f y ∷ map f (drop (i + 1) xs)) (sym e)

-- A property of all elements holds of the one at i.
pub mapped-all : {X Y : Type 0} (P : Y → Type 0) (f : X → Y) (xs : List X) (i : ℕ) (x : X) → AllByRecursion P (map f xs) → i < length xs
    → x ≡ get_or xs i x → P (f x)
mapped-all {X} P f xs i x h l e = subst (λ (y : X). P (f y)) (sym e) (at xs i h l)
  where
    at : (xs : List X) (i : ℕ) → AllByRecursion P (map f xs) → i < length xs → P (f (get_or xs i x))
    at [] i h l = absurd (omega arith)
    at (y ∷ ys) zero h l = h.0
    at (y ∷ ys) (suc i) h l = at ys i h.1 (omega arith)

-- The element at i of a mapped list is the mapped element at i.
pub mapped-get : {X Y : Type 0} (f : X → Y) (xs : List X) (i : ℕ) (x : X) → i < length xs → x ≡ get_or xs i x → slice_get (map f xs) i ≡ Some (f x)
mapped-get {X} f xs i x l e = at xs i l ∙ ap (λ y. Some (f y)) (sym e)
  where
    at : (xs : List X) (i : ℕ) → i < length xs → slice_get (map f xs) i ≡ Some (f (get_or xs i x))
    at [] i l = absurd (omega arith)
    at (y ∷ ys) zero l = refl
    at (y ∷ ys) (suc i) l = at ys i (omega arith)

-- If a mapped list has an element at i, the list has one there.
pub mapped-within : {X Y : Type 0} (f : X → Y) (xs : List X) (i : ℕ) (y : Y) → slice_get (map f xs) i ≡ Some y → i < length xs
mapped-within f [] i y e = absurd (let none_some : None ≡ Some y → ⊥ = λ k. cc in none_some e)
mapped-within f (x ∷ xs) zero y e = omega arith
mapped-within f (x ∷ xs) (suc i) y e = let l = mapped-within f xs i y e in omega (arith, l)

-- A predicate that holds of all elements by recursion holds at each position.
pub all-to : {X : Type 0} (P : X → Type 0) (xs : List X) → AllByRecursion P xs → All P xs
all-to P [] h k d l = absurd (omega arith)
all-to P (x ∷ xs) h zero d l = h.0
all-to P (x ∷ xs) h (suc k) d l = all-to P xs h.1 k d (omega arith)

-- A property of every position holds by recursion.
pub all-from : {X : Type 0} (P : X → Type 0) (xs : List X) → All P xs → AllByRecursion P xs
all-from P [] h = tt
all-from P (x ∷ xs) h = (h 0 x (omega arith), all-from P xs (λ k d l. h (suc k) d (omega arith)))
