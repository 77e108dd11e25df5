-- Entries of lists by their keys.
use Rattle.std.specs.Prelude.{ℕ, suc, Bool, true, false, ◌&&◌, ◌==◌, nat_lt, if◌then◌else◌, List, [], ◌∷◌, Option, Some}
use Rattle.std.specs.Prelude.{None}
use Rattle.std.specs.Prelude.{slice_get, zero}

-- the first element with a key, if there is one
abbrev pub lookup : {A : Type 0} → (A → ℕ) → ℕ → List A → Option A
lookup key n [] = None
lookup key n (x ∷ xs) = if key x == n then Some x else lookup key n xs

-- whether there is a value
abbrev pub is_there : {A : Type 0} → Option A → Bool
is_there None = false
is_there (Some x) = true

-- the element with a number, counted from 1, if there is one
abbrev pub numbered : {A : Type 0} → List A → ℕ → Option A
numbered xs zero = None
numbered xs (suc n) = slice_get xs n

-- whether a number is below each of a list, and whether each number of a list is below all after it
abbrev pub is_below_all : ℕ → List ℕ → Bool
is_below_all n [] = true
is_below_all n (m ∷ ms) = nat_lt n m && is_below_all n ms

abbrev pub ascends : List ℕ → Bool
ascends [] = true
ascends (n ∷ ns) = is_below_all n ns && ascends ns
