-- Naming of nodes, one after the other.
use Rattle.std.specs.Prelude.{ℕ, List, [], ◌∷◌, Option, Some, None, slice_set, slice_index_or}

-- The names after the nodes of a list get a name.
abbrev pub named : ℕ → List ℕ → List ℕ → List ℕ
named name [] names = names
named name (b ∷ bs) names = named name bs (slice_set names b name)

-- The table of first nodes after this node, and the first node with its name.
abbrev pub first_in : Option ℕ → ℕ → ℕ → List (Option ℕ) → List (Option ℕ) × ℕ
first_in None name node first = (slice_set first name (Some node), node)
first_in (Some leader) name node first = (first, leader)

abbrev pub first_with : ℕ → ℕ → List (Option ℕ) → List (Option ℕ) × ℕ
first_with name node first = first_in (slice_index_or first name None) name node first
