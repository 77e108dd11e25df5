-- Charges that are taken from a list.
use Rattle.std.specs.Prelude.{◌≡◌, ℕ, ◌<◌, List, length, remove, Option, Some, None}
use Rattle.potential_nodes.specs.potentials.Sums.{Charge}

-- none is taken; or the one at a position is, and the others are left
abbrev pub IsTakenFrom : Option (List Charge) → List Charge → Option ℕ → Type 0
IsTakenFrom left charges None = left ≡ None
IsTakenFrom left charges (Some i) = (i < length charges) × (left ≡ Some (remove charges i))
