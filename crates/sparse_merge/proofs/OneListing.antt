-- There is only one proof that a list is a listing, so a type can contain the proof.
use Rattle.std.proofs.Common.{ℕ, suc, List, [], ◌∷◌}
use Rattle.std.proofs.Props.{props}
use Rattle.sparse_merge.specs.Listing.{Ascends, IsListing}

module _ {C : Type 0} (place_of : C → ℕ) (fits : C → Type 0) (one : (c : C) → IsProp (fits c)) where
  -- two proofs that places ascend are equal
  Ascends-prop : (from : ℕ) (cs : List C) → IsProp (Ascends place_of fits from cs)
  Ascends-prop from [] = hlevel props
  Ascends-prop from (c ∷ cs) = let rest = Ascends-prop (suc (place_of c)) cs in let here = one c in hlevel (props, here, rest)

  -- two proofs that a list is a listing are equal
  pub IsListing-prop : (cs : List C) → IsProp (IsListing place_of fits cs)
  IsListing-prop cs = let ascend = Ascends-prop 0 cs in hlevel (props, ascend)
