-- The steps of loops over the parts of a bound that count or evaluate up to a limit.
use Rattle.std.proofs.Common.{◌≡◌, ℕ, ◌+◌, ◌*◌, ◌^◌, ◌<◌, min, max, List, take, get_or, length, ap, sym, ◌∙◌, arith}
use Rattle.model.specs.Bounds as plain
use Rattle.model.specs.Bounds.{PowerOf, Parts, val, val_sum, val_product, val_maximum}
use Rattle.bound_expr.specs.declared.bound.Bound.{Bound}
use Rattle.bound_expr.specs.Views.{bound_of, bounds_of, parts_of}
use Rattle.bound_expr.specs.Measure.{node_count, node_count_of_all, depth_of, maximum_depth}
use Rattle.bound_expr.proofs.Lists.{parts_of-take_more, node_count-with_part, depth-with_part, val_sum-with_part}
use Rattle.bound_expr.proofs.Lists.{val_product-with_part, val_maximum-with_part}
use Rattle.bound_expr.proofs.Caps.{min-mul, min-pow}

-- the parts that a loop has seen before place i
abbrev pub seen : List Bound → ℕ → Parts
seen xs i = parts_of (bounds_of (take i xs))

-- one more part adds its nodes, up to a limit
pub node_count-step : (xs : List Bound) (i : ℕ) (x : Bound) (before here after limit : ℕ) → i < length xs
    → x ≡ get_or xs i x
    → before ≡ min (node_count_of_all (seen xs i)) limit → here ≡ min (node_count (bound_of x)) limit
    → after ≡ min (before + here) limit
    → after ≡ min (node_count_of_all (seen xs (i + 1))) limit
node_count-step xs i x before here after limit h e is_before is_here is_after =
    omega (arith, ap node_count_of_all (parts_of-take_more xs i x h e), node_count-with_part (seen xs i) (bound_of x))

-- one more part may raise the number of levels, up to a limit
pub depth-step : (xs : List Bound) (i : ℕ) (x : Bound) (before here after limit : ℕ) → i < length xs → x ≡ get_or xs i x
    → before ≡ min (maximum_depth (seen xs i)) limit → here ≡ min (depth_of (bound_of x)) limit
    → after ≡ max before here
    → after ≡ min (maximum_depth (seen xs (i + 1))) limit
depth-step xs i x before here after limit h e is_before is_here is_after =
    omega (arith, ap maximum_depth (parts_of-take_more xs i x h e), depth-with_part (seen xs i) (bound_of x))

-- one more part of a sum adds its value, up to a limit
pub val_sum-step : (xs : List Bound) (m : List ℕ) (i : ℕ) (x : Bound) (before here after limit : ℕ) → i < length xs
    → x ≡ get_or xs i x
    → before ≡ min (val_sum (seen xs i) m) limit → here ≡ min (val (bound_of x) m) limit
    → after ≡ min (before + here) limit
    → after ≡ min (val_sum (seen xs (i + 1)) m) limit
val_sum-step xs m i x before here after limit h e is_before is_here is_after =
    omega (arith, ap (λ (ps : Parts). val_sum ps m) (parts_of-take_more xs i x h e), val_sum-with_part (seen xs i) (bound_of x) m)

-- one more part of a maximum may raise its value, up to a limit
pub val_maximum-step : (xs : List Bound) (m : List ℕ) (i : ℕ) (x : Bound) (before here after limit : ℕ) → i < length xs
    → x ≡ get_or xs i x
    → before ≡ min (val_maximum (seen xs i) m) limit → here ≡ min (val (bound_of x) m) limit → after ≡ max before here
    → after ≡ min (val_maximum (seen xs (i + 1)) m) limit
val_maximum-step xs m i x before here after limit h e is_before is_here is_after =
    omega (arith, ap (λ (ps : Parts). val_maximum ps m) (parts_of-take_more xs i x h e), val_maximum-with_part (seen xs i) (bound_of x) m)

-- one more factor multiplies by its value, up to a limit
pub val_product-step : (xs : List Bound) (m : List ℕ) (i : ℕ) (x : Bound) (before here after limit : ℕ) → i < length xs
    → x ≡ get_or xs i x
    → before ≡ min (val_product (seen xs i) m) limit → here ≡ min (val (bound_of x) m) limit
    → after ≡ min (before * here) limit
    → after ≡ min (val_product (seen xs (i + 1)) m) limit
val_product-step xs m i x before here after limit h e is_before is_here is_after =
    is_after
    ∙ ap (λ (v : ℕ). min (v * here) limit) is_before
    ∙ ap (λ (v : ℕ). min (min (val_product (seen xs i) m) limit * v) limit) is_here
    ∙ min-mul (val_product (seen xs i) m) (val (bound_of x) m) limit
    ∙ ap (λ (v : ℕ). min v limit)
    (sym (ap (λ (ps : Parts). val_product ps m) (parts_of-take_more xs i x h e) ∙ val_product-with_part (seen xs i) (bound_of x) m))

-- the capped power of the capped exponent is the capped value of the power
pub power-step : (c : ℕ) (e b : plain.Bound) (m : List ℕ) (base exponent outcome limit : ℕ) → 0 < limit
    → b ≡ PowerOf c e → base ≡ c
    → exponent ≡ min (val e m) limit → outcome ≡ min (base ^ exponent) limit → outcome ≡ min (val b m) limit
power-step c e b m base exponent outcome limit p whole is_base is_exponent is_outcome =
    is_outcome
    ∙ ap (λ (v : ℕ). min (v ^ exponent) limit) is_base
    ∙ ap (λ (v : ℕ). min (c ^ v) limit) is_exponent
    ∙ min-pow c (val e m) limit p
    ∙ ap (λ (v : plain.Bound). min (val v m) limit) (sym whole)
