-- Positions of factors that are taken.
use Rattle.std.specs.Prelude.{◌≡◌, ℕ, ◌<◌, Bool, true, false, List, length, remove, Option, Some, None}
use Rattle.signed_bounds.specs.Bounds.{Signed}
use Rattle.signed_bounds.specs.Covers.{without_first}

-- no factor is taken; or the one at the position is, and the others are left
abbrev pub IsTakenBy : (List Signed → Option (List Signed)) → List Signed → Option ℕ → Type 0
IsTakenBy without bs None = without bs ≡ None
IsTakenBy without bs (Some i) = (i < length bs) × (without bs ≡ Some (remove bs i))

-- no factor passes the test; or the one at a position is the first that does
abbrev pub IsFirstTaken : (Signed → Bool) → List Signed → Option ℕ → Type 0
IsFirstTaken test bs o = IsTakenBy (without_first test) bs o

-- a factor is taken, and these are left; or none is taken
abbrev pub IsTakenOut : Option (List Signed) → Bool → List Signed → Type 0
IsTakenOut o true left = o ≡ Some left
IsTakenOut o false left = o ≡ None
