-- The contents of a shelf, as plain data.
use Rattle.std.specs.Prelude.{◌≡◌, ℕ, ◌<◌, List, Option, None, Some, length, IfSome, IsSomeAnd}
use Rattle.std.specs.Cmp.Lexicographic.{slice_cmp}
use Rattle.std.specs.Ordering.{nat_cmp}
use Rattle.std.specs.FinMap.{FinMap, get}

-- from the bytes of a name to the bytes of the file of that name
abbrev pub Files : Type 0
Files = FinMap (slice_cmp nat_cmp) (List ℕ)

-- there is a file of this name, and it has more bytes than the limit
abbrev pub HoldsMore : Files → List ℕ → ℕ → Type 0
HoldsMore files name limit = IsSomeAnd (get files name) (λ bytes. limit < length bytes)

-- the shelf discloses its contents, and has no file of this name
abbrev pub Lacks : Option Files → List ℕ → Type 0
Lacks held name = IsSomeAnd held (λ files. get files name ≡ None)

-- if the shelf discloses its contents, the bytes are those of the file of this name
abbrev pub HasBytesIfDisclosed : Option Files → List ℕ → List ℕ → Type 0
HasBytesIfDisclosed held name bytes = IfSome held (λ files. get files name ≡ Some bytes)
