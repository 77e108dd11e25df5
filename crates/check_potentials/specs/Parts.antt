-- Parts of bounds.
use Rattle.std.specs.Prelude.{if◌then◌else◌, List, [], ◌∷◌, Option, None}
use Rattle.signed_bounds.specs.Bounds.{Signed, SignedParts, Part}
use Rattle.potential_nodes.specs.Facts.{SignedFact}
use Rattle.potential_nodes.specs.Tables.{Move}
use Rattle.potential_nodes.specs.Falls.{sum_cited}

-- bounds in front of parts
abbrev pub in_front : List Signed → SignedParts → SignedParts
in_front [] parts = parts
in_front (b ∷ bs) parts = Part b (in_front bs parts)

-- the bound that a fact gives for the sum of the gain of a move that keeps the function, if one is cited
abbrev pub kept_cited : List SignedFact → Move → Option Signed
kept_cited facts m = if m.keeps then sum_cited facts m else None
