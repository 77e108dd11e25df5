-- The longest prefix of a list whose elements pass a test, and the rest.
use Rattle.std.specs.Prelude.{Bool, List, [], ◌∷◌, if◌then◌else◌}

module _ {X : Type 0} (p : X → Bool) where
  -- the longest prefix whose elements pass
  abbrev pub prefix : List X → List X
  prefix [] = []
  prefix (x ∷ xs) = if p x then x ∷ prefix xs else []

  -- the elements from the first one on that doesn't pass
  abbrev pub rest : List X → List X
  rest [] = []
  rest (x ∷ xs) = if p x then rest xs else x ∷ xs
