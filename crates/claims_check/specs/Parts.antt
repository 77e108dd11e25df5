-- Parts of bounds in front of others.
use Rattle.std.specs.Prelude.{List, [], ◌∷◌}
use Rattle.signed_bounds.specs.Bounds.{Signed, SignedParts, Part}

-- bounds as parts in front of other parts
abbrev pub in_front : List Signed → SignedParts → SignedParts
in_front [] parts = parts
in_front (b ∷ bs) parts = Part b (in_front bs parts)
