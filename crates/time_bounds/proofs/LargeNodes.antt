-- A bound that is called large has more than 200 nodes.
use Rattle.std.proofs.Common.{◌≡◌, ◌<◌, ◌≤◌, Bool, true, false, refl, arith}
use Rattle.std.specs.Prelude.{nat_lt}
use Rattle.std.proofs.lemmas.Bool.{ltb-true}
use Rattle.model.specs.Bounds.{Bound, Constant, Input, SumOf, ProductOf, MaximumOf, PowerOf, Parts, NoParts, Part}
use Rattle.bound_expr.specs.Limits.{node_limit, depth_limit}
use Rattle.bound_expr.specs.Measure.{node_count, node_count_of_all, depth_of, maximum_depth, is_large, capped_node_count}
use Rattle.cert_types.specs.cert_rules.Checks.{large_nodes}
use Rattle.cert_types.specs.cert_rules.Limits.{IsSmallComposed}

-- a bound has at least as many nodes as levels
mutual
  deep : (b : Bound) → depth_of b ≤ node_count b
  deep (Constant c) = omega arith
  deep (Input i) = omega arith
  deep (SumOf bs) = let h = all_deep bs in omega (arith, h)
  deep (ProductOf bs) = let h = all_deep bs in omega (arith, h)
  deep (MaximumOf bs) = let h = all_deep bs in omega (arith, h)
  deep (PowerOf c e) = let h = deep e in omega (arith, h)

  -- a list of bounds has at least as many nodes as levels
  all_deep : (bs : Parts) → maximum_depth bs ≤ node_count_of_all bs
  all_deep NoParts = omega arith
  all_deep (Part b bs) = let h = deep b in let k = all_deep bs in omega (arith, h, k)

-- a large bound has more than 200 nodes, also by the capped count
many : (b : Bound) → is_large b ≡ true → 200 < capped_node_count b
many b large = go (nat_lt node_limit (node_count b)) refl
  where
    go : (v : Bool) → nat_lt node_limit (node_count b) ≡ v → 200 < capped_node_count b
    go true e = let l : 4096 < node_count b = ltb-true node_limit (node_count b) e in omega (arith, l)
    go false e =
        let l : 200 < depth_of b = ltb-true depth_limit (depth_of b) (rw e at large) in
        let d = deep b in
        omega (arith, l, d)

-- a bound that is large before or after it is rewritten has more than 200 nodes
pub large_many : (rewrite : Bound → Bound) (b : Bound) → (IsSmallComposed rewrite b → ⊥) → 200 < large_nodes rewrite b
large_many rewrite b large = before (is_large b) refl
  where
    after : is_large b ≡ false → (v : Bool) → is_large (rewrite b) ≡ v → 200 < capped_node_count (rewrite b)
    after e true f = many (rewrite b) f
    after e false f = absurd (large (record { before = e; after = f }))

    before : (v : Bool) → is_large b ≡ v → 200 < large_nodes rewrite b
    before true e = rw e (many b e)
    before false e = rw e (after e (is_large (rewrite b)) refl)
