-- Lists of pairs, and tables of lists.
use Rattle.std.specs.Prelude.{ℕ, List, [], map, filter, Vec, Option, Some, None, ◌==◌, slice_get}
use Rattle.std.specs.List.{Contains}
use Rattle.std.specs.declared.alloc.Global.{Global}

-- The values of a key: the second element of each pair with this first element, in the order of the pairs.
abbrev pub values_of : List (ℕ × ℕ) → ℕ → List ℕ
values_of pairs key = map (λ (e : ℕ × ℕ). e.1) (filter (λ (e : ℕ × ℕ). e.0 == key) pairs)

-- The items of a list, if there is one, else none.
abbrev pub items_in : Option (Vec ℕ Global) → List ℕ
items_in None = []
items_in (Some v) = v.items

-- The values of a key in a table of lists; a key past its end has none.
abbrev pub values_in : List (Vec ℕ Global) → ℕ → List ℕ
values_in lists key = items_in (slice_get lists key)

-- An edge of the graph whose table gives each node its successors.
abbrev pub Joins : List (Vec ℕ Global) → ℕ → ℕ → Type 0
Joins lists a b = Contains (values_in lists a) b

-- An edge of the graph whose edges are listed as pairs.
abbrev pub IsPair : List (ℕ × ℕ) → ℕ → ℕ → Type 0
IsPair pairs a b = Contains pairs (a, b)

-- The pair with its parts exchanged.
abbrev pub swap : ℕ × ℕ → ℕ × ℕ
swap e = (e.1, e.0)

-- The items of a list.
abbrev pub items_of : Vec ℕ Global → List ℕ
items_of v = v.items
