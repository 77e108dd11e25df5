-- Which components have an edge inside.
use Rattle.std.specs.Prelude.{ℕ, ◌==◌, Bool, true, false, cond, List, [], ◌∷◌, slice_set, slice_index_or}

-- these flags, with those of nodes that have an edge to themselves set
abbrev pub marked : List (ℕ × ℕ) → List Bool → List Bool
marked [] own = own
marked (e ∷ edges) own = marked edges (cond (e.0 == e.1) (slice_set own e.0 true) own)

-- a component has an edge inside: it has two or more nodes, or its only one has an edge to itself
abbrev pub has_inside : List Bool → List ℕ → Bool
has_inside own [] = false
has_inside own (a ∷ []) = slice_index_or own a false
has_inside own (a ∷ b ∷ nodes) = true
