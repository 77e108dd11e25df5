-- The nodes of components by their leaders.
use Rattle.std.specs.Prelude.{◌≡◌, ◌↔◌, ℕ, suc, ◌<◌, List, [], ◌∷◌, length, slice_index}
use Rattle.std.specs.List.{Contains}
use Rattle.std.specs.List.Sorted.{IsStrictlyIncreasing}

-- Each leader of the list by its position, with numbers that count up.
abbrev pub numbered : List ℕ → ℕ → List ℕ → List (ℕ × ℕ)
numbered positions node [] = []
numbered positions node (leader ∷ leaders) = (slice_index positions leader, node)
    ∷ numbered positions (suc node) leaders

-- The nodes that have the leader, ascending.
pub record AreMembers (leaders : List ℕ) (leader : ℕ) (members : List ℕ) : Type 0 where
  pub each : (b : ℕ) → Contains members b ↔ ((b < length leaders) × (slice_index leaders b ≡ leader))
  pub ascending : IsStrictlyIncreasing members
