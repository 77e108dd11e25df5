-- The size of a bound: nodes and levels.
use Rattle.std.specs.Prelude.{ℕ, ◌+◌, ◌-◌, ◌^◌, max, min, nat_lt, ◌||◌, Bool}
use Rattle.model.specs.Bounds.{Bound, Constant, Input, SumOf, ProductOf, MaximumOf, PowerOf, Parts, NoParts, Part}
use Rattle.bound_expr.specs.Limits.{node_limit, depth_limit}

-- the number of nodes
abbrev mutual
  pub node_count : Bound → ℕ
  node_count (Constant c) = 1
  node_count (Input i) = 1
  node_count (SumOf bs) = 1 + node_count_of_all bs
  node_count (ProductOf bs) = 1 + node_count_of_all bs
  node_count (MaximumOf bs) = 1 + node_count_of_all bs
  node_count (PowerOf c e) = 1 + node_count e

  pub node_count_of_all : Parts → ℕ
  node_count_of_all NoParts = 0
  node_count_of_all (Part b bs) = node_count b + node_count_of_all bs

-- the number of levels; a node without parts has one
abbrev mutual
  pub depth_of : Bound → ℕ
  depth_of (Constant c) = 1
  depth_of (Input i) = 1
  depth_of (SumOf bs) = 1 + maximum_depth bs
  depth_of (ProductOf bs) = 1 + maximum_depth bs
  depth_of (MaximumOf bs) = 1 + maximum_depth bs
  depth_of (PowerOf c e) = 1 + depth_of e

  pub maximum_depth : Parts → ℕ
  maximum_depth NoParts = 0
  maximum_depth (Part b bs) = max (depth_of b) (maximum_depth bs)

-- a bound is large: it has more than 4,096 nodes, or more than 200 levels
abbrev pub is_large : Bound → Bool
is_large b = nat_lt node_limit (node_count b) || nat_lt depth_limit (depth_of b)

-- the number of nodes as it is returned: where it doesn't fit its type, that type's maximum
abbrev pub capped_node_count : Bound → ℕ
capped_node_count b = min (node_count b) (2 ^ 64 - 1)
