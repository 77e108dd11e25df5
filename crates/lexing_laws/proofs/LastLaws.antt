-- The last of some with one more.
use Rattle.std.proofs.Common.{◌≡◌, List, [], ◌∷◌, ◌++◌, map, Option, Some, refl, ap, ◌∙◌}
use Rattle.std.proofs.lemmas.List.{map-append}
use Rattle.lexing_laws.specs.Lasts.{last_of, before_last}

-- the last of some with one more is that one, and those before it are the others
pub last_append : {X : Type 0} (xs : List X) (x : X) → last_of (xs ++ x ∷ []) ≡ Some x
last_append [] x = refl
last_append (y ∷ []) x = refl
last_append (y ∷ z ∷ xs) x = last_append (z ∷ xs) x

pub before_append : {X : Type 0} (xs : List X) (x : X) → before_last (xs ++ x ∷ []) ≡ xs
before_append [] x = refl
before_append (y ∷ []) x = refl
before_append (y ∷ z ∷ xs) x = ap (λ ys. y ∷ ys) (before_append (z ∷ xs) x)

-- the images of what is taken from the end
pub map_popped : {X Y : Type 0} (f : X → Y) (old new : List X) (x : X) → old ≡ new ++ x ∷ []
    → map f old ≡ map f new ++ f x ∷ []
map_popped f old new x e = ap (λ xs. map f xs) e ∙ map-append f new (x ∷ [])
