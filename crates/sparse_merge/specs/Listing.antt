-- Lists of cells at ascending places.
use Rattle.std.specs.Prelude.{◌≡◌, ℕ, suc, ◌<◌, ◌≤◌, length, slice_get, List, [], ◌∷◌, Option, Some, None, nat_eq, if◌then◌else◌}

module _ {C : Type 0} (place_of : C → ℕ) where
  -- the cell of a list at place i, or none
  abbrev pub listed : List C → ℕ → Option C
  listed [] i = None
  listed (c ∷ cs) i = if nat_eq (place_of c) i then Some c else listed cs i

  -- the places ascend strictly and are at least `from`, and each cell fits
  abbrev pub Ascends : (C → Type 0) → ℕ → List C → Type 0
  Ascends fits from [] = Unit {0}
  Ascends fits from (c ∷ cs) = (from ≤ place_of c) × fits c × Ascends fits (suc (place_of c)) cs

  -- a listing: the places ascend strictly, and each cell fits
  pub record IsListing (fits : C → Type 0) (cs : List C) : Type 0 where
    pub ascends : Ascends fits 0 cs

  -- a range of a binary search: the cells before index low are at places below i, and those from index high on at
  -- places above i
  pub record LiesWithin (cs : List C) (i low high : ℕ) : Type 0 where
    pub order : low ≤ high
    pub within : high ≤ length cs
    pub before : (k : ℕ) (c : C) → slice_get cs k ≡ Some c → k < low → place_of c < i
    pub behind : (k : ℕ) (c : C) → slice_get cs k ≡ Some c → high ≤ k → i < place_of c

  -- the cell at index k is at place i
  pub record IsAt (cs : List C) (i k : ℕ) : Type 0 where
    pub cell : C
    pub is : slice_get cs k ≡ Some cell
    pub place : place_of cell ≡ i

  -- no cell is at place i: the cells before index k are at places below it, and the others above it
  abbrev pub LiesAt : List C → ℕ → ℕ → Type 0
  LiesAt cs i k = LiesWithin cs i k k
