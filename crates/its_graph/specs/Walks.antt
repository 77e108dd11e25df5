-- Depth-first walks.
use Rattle.std.specs.Prelude.{◌≡◌, ℕ, ◌<◌, length, All}
use Rattle.its_graph.specs.declared.roots.Walk.{Walk}
use Rattle.its_graph.specs.declared.roots.Visit.{Visit}

-- The walk goes over this many nodes.
pub record IsWalk (n : ℕ) (w : Walk) : Type 0 where
  pub path : All (λ (v : Visit). v.node < n) w.path.items
  pub seen : length w.seen.items ≡ n
  pub left : All (λ a. a < n) w.left.items
