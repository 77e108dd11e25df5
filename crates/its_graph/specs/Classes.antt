-- Components while they are being found: each node has the name of one.
use Rattle.std.specs.Prelude.{◌≡◌, ◌⊎◌, ◌↔◌, ℕ, ◌<◌, ◌≤◌, List, length, Vec, All, slice_index}
use Rattle.std.specs.List.{Contains}
use Rattle.std.specs.declared.alloc.Global.{Global}
use Rattle.its_graph.specs.declared.flood.TheConstants.{UNKNOWN, KNOWN}
use Rattle.its_graph.specs.Groups.{values_in, Joins}
use Rattle.its_graph.specs.Components.{IsMutual}

-- The tables list the successors and the predecessors of the nodes of one graph, for nodes below n.
pub record AreTables (n : ℕ) (next previous : List (Vec ℕ Global)) : Type 0 where
  pub next_size : length next ≡ n
  pub previous_size : length previous ≡ n
  pub next_within : (a : ℕ) → All (λ b. b < n) (values_in next a)
  pub previous_within : (a : ℕ) → All (λ b. b < n) (values_in previous a)
  pub opposite : (a b : ℕ) → Joins next a b ↔ Joins previous b a

-- The known nodes are whole components, and each has as name a node of its component, the same for all its nodes.
pub record AreClasses (Edge : ℕ → ℕ → Type 0) (colors names : List ℕ) : Type 0 where
  pub decided : (a : ℕ) → (slice_index colors a ≡ UNKNOWN) ⊎ (slice_index colors a ≡ KNOWN)
  pub whole : (a b : ℕ) → slice_index colors a ≡ KNOWN → IsMutual Edge a b → (slice_index colors b ≡ KNOWN)
      × (slice_index names b ≡ slice_index names a)
  pub named : (a : ℕ) → slice_index colors a ≡ KNOWN → IsMutual Edge a (slice_index names a)

-- The component of the node `root` became known, and nothing became unknown.
pub record Takes (Edge : ℕ → ℕ → Type 0) (before after names : List ℕ) (root : ℕ) : Type 0 where
  pub classes : AreClasses Edge after names
  pub root_known : slice_index after root ≡ KNOWN
  pub kept : (a : ℕ) → slice_index before a ≡ KNOWN → slice_index after a ≡ KNOWN

-- The components of all nodes of a list are known.
pub record TakesAll (Edge : ℕ → ℕ → Type 0) (after names roots : List ℕ) : Type 0 where
  pub classes : AreClasses Edge after names
  pub known : (a : ℕ) → Contains roots a → slice_index after a ≡ KNOWN

-- Each node has as name a node of its component, the same for all its nodes.
pub record AreClassNames (Edge : ℕ → ℕ → Type 0) (n : ℕ) (names : List ℕ) : Type 0 where
  pub size : length names ≡ n
  pub same : (a b : ℕ) → a < n → IsMutual Edge a b → slice_index names b ≡ slice_index names a
  pub own : (a : ℕ) → a < n → IsMutual Edge a (slice_index names a)

-- For each node, the list has the first node of the same name.
pub record AreFirst (names leaders : List ℕ) : Type 0 where
  pub size : length leaders ≡ length names
  pub within : (a : ℕ) → a < length names → slice_index leaders a < length names
  pub alike : (a : ℕ) → a < length names → slice_index names (slice_index leaders a) ≡ slice_index names a
  pub least : (a b : ℕ) → a < length names → b < length names → slice_index names b ≡ slice_index names a
      → slice_index leaders a ≤ b

-- For each node, the list has the least node of its component.
pub record AreLeaders (Edge : ℕ → ℕ → Type 0) (n : ℕ) (leaders : List ℕ) : Type 0 where
  pub size : length leaders ≡ n
  pub within : (a : ℕ) → a < n → slice_index leaders a < n
  pub own : (a : ℕ) → a < n → IsMutual Edge a (slice_index leaders a)
  pub same : (a b : ℕ) → a < n → b < n → IsMutual Edge a b → slice_index leaders a ≡ slice_index leaders b
  pub least : (a b : ℕ) → a < n → b < n → IsMutual Edge a b → slice_index leaders a ≤ b
