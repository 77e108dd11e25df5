-- The size of a signed bound.
use Rattle.std.specs.Prelude.{ℕ, ◌+◌, max, nat_lt, ◌||◌, Bool, false, [], ◌∷◌, length}
use Rattle.poly_terms.specs.model.Polynomials.{Polynomial}
use Rattle.signed_bounds.specs.Bounds.{Signed, Constant, PositivePart, SumOf, ProductOf, MaximumOf, MinimumOf, Quotient}
use Rattle.signed_bounds.specs.Bounds.{Root, PowerOf, SignedParts, NoParts, Part}
use Rattle.signed_bounds.specs.Limits.{constant_limit, node_limit, depth_limit}

-- the number of nodes of a polynomial: its monomials and their factors
abbrev pub polynomial_nodes : Polynomial → ℕ
polynomial_nodes [] = 0
polynomial_nodes (m ∷ ms) = 1 + length m.vars + polynomial_nodes ms

-- the number of nodes
abbrev mutual
  pub node_count : Signed → ℕ
  node_count (Constant c) = 1
  node_count (PositivePart p) = 1 + polynomial_nodes p
  node_count (SumOf bs) = 1 + node_count_of_all bs
  node_count (ProductOf bs) = 1 + node_count_of_all bs
  node_count (MaximumOf bs) = 1 + node_count_of_all bs
  node_count (MinimumOf b bs) = 1 + (node_count b + node_count_of_all bs)
  node_count (Quotient b d) = 1 + node_count b
  node_count (Root b) = 1 + node_count b
  node_count (PowerOf c e) = 1 + node_count e

  pub node_count_of_all : SignedParts → ℕ
  node_count_of_all NoParts = 0
  node_count_of_all (Part b bs) = node_count b + node_count_of_all bs

-- the number of levels; a constant and the positive part of a polynomial have one
abbrev mutual
  pub depth_of : Signed → ℕ
  depth_of (Constant c) = 1
  depth_of (PositivePart p) = 1
  depth_of (SumOf bs) = 1 + maximum_depth bs
  depth_of (ProductOf bs) = 1 + maximum_depth bs
  depth_of (MaximumOf bs) = 1 + maximum_depth bs
  depth_of (MinimumOf b bs) = 1 + max (depth_of b) (maximum_depth bs)
  depth_of (Quotient b d) = 1 + depth_of b
  depth_of (Root b) = 1 + depth_of b
  depth_of (PowerOf c e) = 1 + depth_of e

  pub maximum_depth : SignedParts → ℕ
  maximum_depth NoParts = 0
  maximum_depth (Part b bs) = max (depth_of b) (maximum_depth bs)

-- a bound is large: it has more than 4,096 nodes, or more than 200 levels
abbrev pub is_large : Signed → Bool
is_large b = nat_lt node_limit (node_count b) || nat_lt depth_limit (depth_of b)

-- some constant or divisor is over 2^127 - 1
abbrev mutual
  pub has_large_constant : Signed → Bool
  has_large_constant (Constant c) = nat_lt constant_limit c
  has_large_constant (PositivePart p) = false
  has_large_constant (SumOf bs) = some_have_large_constant bs
  has_large_constant (ProductOf bs) = some_have_large_constant bs
  has_large_constant (MaximumOf bs) = some_have_large_constant bs
  has_large_constant (MinimumOf b bs) = has_large_constant b || some_have_large_constant bs
  has_large_constant (Quotient b d) = nat_lt constant_limit d || has_large_constant b
  has_large_constant (Root b) = has_large_constant b
  has_large_constant (PowerOf c e) = has_large_constant e

  pub some_have_large_constant : SignedParts → Bool
  some_have_large_constant NoParts = false
  some_have_large_constant (Part b bs) = has_large_constant b || some_have_large_constant bs

-- a bound exceeds the limits: it is large, or has a constant or a divisor over 2^127 - 1
abbrev pub exceeds_limits : Signed → Bool
exceeds_limits b = is_large b || has_large_constant b
