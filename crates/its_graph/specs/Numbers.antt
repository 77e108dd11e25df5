-- Numbers of components.
use Rattle.std.specs.Prelude.{◌≡◌, ℕ, ◌<◌, List, Vec, slice_index}
use Rattle.std.specs.List.{Contains}
use Rattle.std.specs.declared.alloc.Global.{Global}
use Rattle.its_graph.specs.Groups.{values_in}

-- No two components have a node in common, and all nodes are below n.
pub record AreApart (n : ℕ) (components : List (Vec ℕ Global)) : Type 0 where
  pub within : (k b : ℕ) → Contains (values_in components k) b → b < n
  pub apart : (j k b : ℕ) → Contains (values_in components j) b → Contains (values_in components k) b → j ≡ k

-- Each node of a component has the component's number.
abbrev pub AreNumbers : List (Vec ℕ Global) → List ℕ → Type 0
AreNumbers components numbers = (k b : ℕ) → Contains (values_in components k) b → slice_index numbers b ≡ k

-- Some pair has two nodes of one number.
pub record HasInside (numbers : List ℕ) (links : List (ℕ × ℕ)) : Type 0 where
  pub from : ℕ
  pub to : ℕ
  pub link : Contains links (from, to)
  pub same : slice_index numbers from ≡ slice_index numbers to
