-- A loop over the parts of a bound: one more part at the end, and how the measures change with it.
use Rattle.std.proofs.Common.{◌≡◌, ℕ, zero, suc, ◌+◌, ◌*◌, ◌<◌, max, List, [], ◌∷◌, ◌++◌, take, get_or, length, refl}
use Rattle.std.proofs.Common.{ap, sym, ◌∙◌, subst, arith}
use Rattle.std.proofs.lemmas.List.{take_more, map-append}
use Rattle.model.specs.Bounds as plain
use Rattle.model.specs.Bounds.{Parts, NoParts, Part, val, val_sum, val_product, val_maximum}
use Rattle.bound_expr.specs.declared.bound.Bound.{Bound}
use Rattle.bound_expr.specs.Views.{bound_of, bounds_of, parts_of, with_part}
use Rattle.bound_expr.specs.Measure.{node_count, node_count_of_all, depth_of, maximum_depth}
use Rattle.bound_expr.specs.Numbers.{ReadsBelow, AllReadBelow}
use Rattle.bound_expr.specs.Substitution.{substituted, all_substituted}

-- the parts of a list with one more bound at the end are the parts of the list with that bound at the end
pub parts_of-snoc : (bs : List plain.Bound) (b : plain.Bound) → parts_of (bs ++ b ∷ []) ≡ with_part (parts_of bs) b
parts_of-snoc [] b = refl
parts_of-snoc (c ∷ cs) b = ap (Part c) (parts_of-snoc cs b)

-- pushing a bound appends one part
pub parts_of-push : (xs : List Bound) (x : Bound)
    → parts_of (bounds_of (xs ++ x ∷ [])) ≡ with_part (parts_of (bounds_of xs)) (bound_of x)
parts_of-push xs x = ap parts_of (map-append bound_of xs (x ∷ [])) ∙ parts_of-snoc (bounds_of xs) (bound_of x)

-- the parts that a loop has seen once it has seen x, too
pub parts_of-take_more : (xs : List Bound) (i : ℕ) (x : Bound) → i < length xs → x ≡ get_or xs i x
    → parts_of (bounds_of (take (i + 1) xs)) ≡ with_part (parts_of (bounds_of (take i xs))) (bound_of x)
parts_of-take_more xs i x h e =
    ap (λ (ys : List Bound). parts_of (bounds_of ys)) (take_more xs i x h)
    ∙ parts_of-push (take i xs) (get_or xs i x)
    ∙ ap (λ (y : Bound). with_part (parts_of (bounds_of (take i xs))) (bound_of y)) (sym e)

-- one more part adds its nodes
pub node_count-with_part : (bs : Parts) (b : plain.Bound)
    → node_count_of_all (with_part bs b) ≡ node_count_of_all bs + node_count b
node_count-with_part NoParts b = omega arith
node_count-with_part (Part c cs) b = omega (arith, node_count-with_part cs b)

-- the levels of parts are those of the deepest
pub depth-with_part : (bs : Parts) (b : plain.Bound)
    → maximum_depth (with_part bs b) ≡ max (maximum_depth bs) (depth_of b)
depth-with_part NoParts b = omega arith
depth-with_part (Part c cs) b = omega (arith, depth-with_part cs b)

-- one more part of a sum adds its value
pub val_sum-with_part : (bs : Parts) (b : plain.Bound) (m : List ℕ)
    → val_sum (with_part bs b) m ≡ val_sum bs m + val b m
val_sum-with_part NoParts b m = omega arith
val_sum-with_part (Part c cs) b m = omega (arith, val_sum-with_part cs b m)

-- one more factor multiplies by its value
pub val_product-with_part : (bs : Parts) (b : plain.Bound) (m : List ℕ)
    → val_product (with_part bs b) m ≡ val_product bs m * val b m
val_product-with_part NoParts b m = omega arith
val_product-with_part (Part c cs) b m = omega (arith, ap (λ (v : ℕ). val c m * v) (val_product-with_part cs b m))

-- one more part of a maximum may be greater
pub val_maximum-with_part : (bs : Parts) (b : plain.Bound) (m : List ℕ)
    → val_maximum (with_part bs b) m ≡ max (val_maximum bs m) (val b m)
val_maximum-with_part NoParts b m = omega arith
val_maximum-with_part (Part c cs) b m = omega (arith, val_maximum-with_part cs b m)

-- substituting in one more part appends the substituted part
pub substituted-with_part : (bs : Parts) (b : plain.Bound) (sizes : List plain.Bound)
    → all_substituted (with_part bs b) sizes ≡ with_part (all_substituted bs sizes) (substituted b sizes)
substituted-with_part NoParts b sizes = refl
substituted-with_part (Part c cs) b sizes = ap (Part (substituted c sizes)) (substituted-with_part cs b sizes)

-- if all parts read only the first n inputs, so does the part at each position
pub ReadsBelow-at : (n : ℕ) (xs : List Bound) (i : ℕ) (x : Bound) → AllReadBelow n (parts_of (bounds_of xs))
    → i < length xs
    → x ≡ get_or xs i x → ReadsBelow n (bound_of x)
ReadsBelow-at n [] i x all h e = absurd (omega arith)
ReadsBelow-at n (y ∷ ys) zero x all h e = subst (λ (z : Bound). ReadsBelow n (bound_of z)) (sym e) all.0
ReadsBelow-at n (y ∷ ys) (suc i) x all h e = ReadsBelow-at n ys i x all.1 (omega arith) e
