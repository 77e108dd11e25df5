-- Flooding: the nodes reached through nodes of one colour.
use Rattle.std.specs.Prelude.{◌≡◌, ◌⊎◌, ◌↔◌, ℕ, ◌<◌, List, [], ◌∷◌, ◌++◌, length, if◌then◌else◌, ◌==◌, slice_index}
use Rattle.std.specs.Prelude.{slice_set}
use Rattle.std.specs.List.{Contains}
use Rattle.model.specs.Paths.{Path}

-- The colours of the nodes, and the nodes that were found.
pub record Painting : Type 0 where
  pub colors : List ℕ
  pub found : List ℕ

-- The painting after a node of the old colour gets the new one, and is found.
abbrev pub painted : ℕ → ℕ → ℕ → Painting → Painting
painted old new b m = if slice_index m.colors b == old
    then record { colors = slice_set m.colors b new; found = m.found ++ b ∷ [] } else m

-- The painting after each node of a list is painted, in order.
abbrev pub all_painted : ℕ → ℕ → List ℕ → Painting → Painting
all_painted old new [] m = m
all_painted old new (b ∷ bs) m = all_painted old new bs (painted old new b m)

-- An edge to a node of a colour.
abbrev pub EdgeTo : (ℕ → ℕ → Type 0) → List ℕ → ℕ → ℕ → ℕ → Type 0
EdgeTo Edge colors color a b = Edge a b × (slice_index colors b ≡ color)

-- The nodes of the old colour to which a path of such nodes leads from the start were found, and have the new colour;
-- all others have the colour that they had.
pub record Fills (Edge : ℕ → ℕ → Type 0) (before after : List ℕ) (start old new : ℕ) (found : List ℕ) : Type 0 where
  pub size : length after ≡ length before
  pub reached : (b : ℕ) → Contains found b ↔ Path (EdgeTo Edge before old) start b
  pub were : (b : ℕ) → Contains found b → (b < length before) × (slice_index before b ≡ old)
  pub are : (b : ℕ) → Contains found b → slice_index after b ≡ new
  pub others : (b : ℕ) → (slice_index after b ≡ slice_index before b) ⊎ Contains found b
