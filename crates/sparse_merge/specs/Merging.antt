-- The definition of a merge of two lists of cells into a third.
use Rattle.std.specs.Prelude.{◌≡◌, ℕ, ◌<◌, ◌≤◌, List, [], ◌∷◌, ◌++◌, Option, Some, None, MatchOption, ◌⊎◌}
use Rattle.sparse_merge.specs.Listing.{listed, IsListing, Ascends}
use Rattle.sparse_merge.specs.declared.merging.Stop.{Stop}
use Rattle.sparse_merge.specs.declared.merging.Stop.TheVariants.{Refused, Memory}

module _ {C : Type 0} (place_of : C → ℕ) where
  -- an optional new cell has place k, and fits
  abbrev pub IsMade : (C → Type 0) → ℕ → Option C → Type 0
  IsMade fits k None = Unit {0}
  IsMade fits k (Some c) = (place_of c ≡ k) × fits c

  -- the first cell, if there is one, is at place k or above
  abbrev pub BeginsFrom : ℕ → List C → Type 0
  BeginsFrom k [] = Unit {0}
  BeginsFrom k (c ∷ cs) = k ≤ place_of c

  -- the first cell is at place k
  abbrev pub BeginsAt : ℕ → List C → Type 0
  BeginsAt k [] = ⊥
  BeginsAt k (c ∷ cs) = place_of c ≡ k

  -- both lists begin at place k or above, and at least one of them at k
  pub record IsLeastOf (left right : List C) (k : ℕ) : Type 0 where
    pub left_from : BeginsFrom k left
    pub right_from : BeginsFrom k right
    pub one : BeginsAt k left ⊎ BeginsAt k right

  -- the least place of the first cells of two lists, or none if both are empty
  abbrev pub IsLeastPlace : List C → List C → Option ℕ → Type 0
  IsLeastPlace left right at = MatchOption at ((left ≡ []) × (right ≡ [])) (IsLeastOf left right)

  -- a step at place k takes the first cell if it is at that place, and leaves the rest
  abbrev pub TakesFrom : ℕ → List C → Option C → List C → Type 0
  TakesFrom k cs None rest = (rest ≡ cs) × ¬ BeginsAt k cs
  TakesFrom k cs (Some c) rest = (cs ≡ c ∷ rest) × (place_of c ≡ k)

  -- the list with an optional cell appended
  abbrev pub IsPut : List C → Option C → List C → Type 0
  IsPut made None new = new ≡ made
  IsPut made (Some c) new = new ≡ made ++ (c ∷ [])

  -- the third list has at each place the combination of the cells that the two lists have there; where neither has a
  -- cell, it has none
  pub record IsMerge (fits : C → Type 0) (joins : ℕ → Option C → Option C → Option C → Type 0)
      (left right made : List C) : Type 0 where
    pub listing : IsListing place_of fits made
    pub joined : (i : ℕ) → joins i (listed place_of left i) (listed place_of right i) (listed place_of made i)
    pub only : (i : ℕ) → listed place_of left i ≡ None → listed place_of right i ≡ None → listed place_of made i ≡ None

  -- the cells at place k can't be combined, and those at each lesser place can
  pub record IsRefused (joins : ℕ → Option C → Option C → Option C → Type 0) (refuses : ℕ → Option C → Option C → Type 0)
      (left right : List C) (k : ℕ) : Type 0 where
    pub here : refuses k (listed place_of left k) (listed place_of right k)
    pub before : (i : ℕ) → i < k
        → (c : Option C) × joins i (listed place_of left i) (listed place_of right i) c

  -- why two lists aren't merged: the least place that is refused, or memory ran out, which may happen at any time
  abbrev pub IsStop : (ℕ → Option C → Option C → Option C → Type 0) → (ℕ → Option C → Option C → Type 0) → List C → List C
      → Stop → Type 0
  IsStop joins refuses left right (Refused k) = IsRefused joins refuses left right k
  IsStop joins refuses left right Memory = Unit {0}

  -- a partial merge: all places below the next one are merged, and the rests of the two lists begin at or above it
  pub record IsMerged (fits : C → Type 0) (joins : ℕ → Option C → Option C → Option C → Type 0)
      (left left_rest right right_rest made : List C) : Type 0 where
    pub next : ℕ
    pub left_from : Ascends place_of fits next left_rest
    pub right_from : Ascends place_of fits next right_rest
    pub left_same : (i : ℕ) → next ≤ i → listed place_of left_rest i ≡ listed place_of left i
    pub right_same : (i : ℕ) → next ≤ i → listed place_of right_rest i ≡ listed place_of right i
    pub ascends : Ascends place_of fits 0 made
    pub below : (i : ℕ) → next ≤ i → listed place_of made i ≡ None
    pub joined : (i : ℕ) → i < next
        → joins i (listed place_of left i) (listed place_of right i) (listed place_of made i)
    pub only : (i : ℕ) → i < next → listed place_of left i ≡ None → listed place_of right i ≡ None
        → listed place_of made i ≡ None
