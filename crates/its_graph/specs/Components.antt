-- Strongly connected components, and the order in which they are listed.
use Rattle.std.specs.Prelude.{◌≡◌, ◌⊎◌, ◌↔◌, ℕ, ◌<◌, ◌≤◌, List, ◌∷◌, ◌++◌}
use Rattle.std.specs.List.{Contains}
use Rattle.std.specs.List.Sorted.{IsStrictlyIncreasing}
use Rattle.model.specs.Paths.{Path}
use Rattle.its_graph.specs.Groups.{IsPair}

-- Paths lead from each of two nodes to the other, so both are in one component.
pub record IsMutual (Edge : ℕ → ℕ → Type 0) (a b : ℕ) : Type 0 where
  pub onward : Path Edge a b
  pub back : Path Edge b a

-- The node is in one of the components.
pub record IsListed (components : List (List ℕ)) (a : ℕ) : Type 0 where
  pub component : List ℕ
  pub listed : Contains components component
  pub member : Contains component a

-- A node may come next after the listed components: it is in none of them, and each node from which a path leads to it
-- is in one of them, or in its own component.
pub record MayComeNext (Edge : ℕ → ℕ → Type 0) (nodes : ℕ) (before : List (List ℕ)) (a : ℕ) : Type 0 where
  pub node : a < nodes
  pub unlisted : ¬ (IsListed before a)
  pub sources : (b : ℕ) → Path Edge b a → IsListed before b ⊎ IsMutual Edge a b

-- The component that comes next after the listed ones: that of the least node that may come next, in ascending order.
pub record IsNext (Edge : ℕ → ℕ → Type 0) (nodes : ℕ) (before : List (List ℕ)) (component : List ℕ) : Type 0 where
  pub least : ℕ
  pub ready : MayComeNext Edge nodes before least
  pub first : (a : ℕ) → MayComeNext Edge nodes before a → least ≤ a
  pub members : (b : ℕ) → Contains component b ↔ IsMutual Edge least b
  pub ascending : IsStrictlyIncreasing component

-- The strongly connected components in their order: each comes next after those before it, and each node is listed.
pub record IsListing (Edge : ℕ → ℕ → Type 0) (nodes : ℕ) (components : List (List ℕ)) : Type 0 where
  pub each : (before after : List (List ℕ)) (c : List ℕ) → components ≡ before ++ c ∷ after → IsNext Edge nodes before c
  pub all : (a : ℕ) → a < nodes → IsListed components a

-- A graph has at most one such list.
abbrev pub ListingsAreUnique : Type 0
ListingsAreUnique = (edges : List (ℕ × ℕ)) (nodes : ℕ) (cs ds : List (List ℕ)) → IsListing (IsPair edges) nodes cs
    → IsListing (IsPair edges) nodes ds → cs ≡ ds
