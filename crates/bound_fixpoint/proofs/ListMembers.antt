-- Members of lists, and properties of all members.
use Rattle.std.proofs.Common.{◌≡◌, ◌⊎◌, inl, inr, zero, suc, List, [], ◌∷◌, ◌++◌, map, refl, subst, arith, All}
use Rattle.std.specs.List.{Contains}
use Rattle.bound_fixpoint.proofs.Cases.{either}

-- a member of a list is its first element or a member of the rest
pub contains-cases : {A : Type 0} (x y : A) (ys : List A) → Contains (y ∷ ys) x → (y ≡ x) ⊎ Contains ys x
contains-cases x y ys (zero, low, e) = inl e
contains-cases x y ys (suc k, low, e) = inr (k, omega (arith, low), e)

-- an empty list contains nothing
pub contains-none : {A : Type 0} (x : A) → Contains [] x → ⊥
contains-none x (k, low, e) = omega (arith, low)

-- a list contains its first element
pub contains-first : {A : Type 0} (x : A) (xs : List A) → Contains (x ∷ xs) x
contains-first x xs = (zero, omega arith, refl)

-- a list contains what its rest does
pub contains-later : {A : Type 0} (x y : A) (ys : List A) → Contains ys x → Contains (y ∷ ys) x
contains-later x y ys (k, low, e) = (suc k, omega (arith, low), e)

-- joined lists contain what the first does
pub contains-left : {A : Type 0} (x : A) (xs ys : List A) → Contains xs x → Contains (xs ++ ys) x
contains-left x [] ys h = absurd (contains-none x h)
contains-left x (y ∷ xs) ys h =
    either (contains-cases x y xs h) (λ e. (zero, omega arith, e))
    (λ m. contains-later x y (xs ++ ys) (contains-left x xs ys m))

-- joined lists contain what the second does
pub contains-right : {A : Type 0} (x : A) (xs ys : List A) → Contains ys x → Contains (xs ++ ys) x
contains-right x [] ys h = h
contains-right x (y ∷ xs) ys h = contains-later x y (xs ++ ys) (contains-right x xs ys h)

-- a member of an appended list is one of the first or of the second list
pub contains-either : {A : Type 0} (x : A) (xs ys : List A) → Contains (xs ++ ys) x → Contains xs x ⊎ Contains ys x
contains-either x [] ys h = inr h
contains-either x (y ∷ xs) ys h =
    either (contains-cases x y (xs ++ ys) h) (λ e. inl (zero, omega arith, e))
    (λ m. either (contains-either x xs ys m) (λ l. inl (contains-later x y xs l)) (λ r. inr r))

-- the value of a member is a member of the mapped list
pub contains-map : {A B : Type 0} (f : A → B) (x : A) (xs : List A) → Contains xs x → Contains (map f xs) (f x)
contains-map f x [] h = absurd (contains-none x h)
contains-map f x (y ∷ xs) h =
    either (contains-cases x y xs h)
    (λ e. subst (λ z. Contains (f y ∷ map f xs) (f z)) e (contains-first (f y) (map f xs)))
    (λ m. contains-later (f x) (f y) (map f xs) (contains-map f x xs m))

-- a member of the mapped list is the value of a member
pub map-contains : {A B : Type 0} (f : A → B) (y : B) (xs : List A) → Contains (map f xs) y
    → (x : A) × Contains xs x × (f x ≡ y)
map-contains f y [] h = absurd (contains-none y h)
map-contains f y (x ∷ xs) h =
    either (contains-cases y (f x) (map f xs) h) (λ e. (x, contains-first x xs, e))
    (λ m. let rest = map-contains f y xs m in (rest.0, contains-later rest.0 x xs rest.1, rest.2))

-- a property of all elements is one of each member
pub contained-all : {A : Type 0} (P : A → Type 0) (xs : List A) (x : A) → All P xs → Contains xs x → P x
contained-all P xs x h (k, low, e) = subst P e (h k x low)
