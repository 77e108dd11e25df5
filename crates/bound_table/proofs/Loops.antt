-- Loops over the parts of a bound: the parts still to come.
use Rattle.std.proofs.Common.{◌≡◌, ℕ, zero, suc, ◌+◌, ◌<◌, ◌≤◌, List, [], ◌∷◌, length, get_or, drop, ap, sym, ◌∙◌}
use Rattle.std.proofs.Common.{arith}
use Rattle.std.proofs.lemmas.List.{drop_more, drop_all}
use Rattle.bound_expr.specs.declared.bound.Bound.{Bound}
use Rattle.bound_expr.specs.model.Bounds as plain
use Rattle.bound_expr.specs.Views.{bound_of, bounds_of}
use Rattle.bound_table.proofs.BelowLevels.{bound_weight, bounds_weight, factor_weight, factors_weight}
use Rattle.bound_expr.proofs.Views.{seen}
use Rattle.bound_expr.proofs.PartLists.{list_of-parts_of}

-- the expressions of the rest of a list: the next one, then those after it
pub bounds_of-drop : (xs : List Bound) (i : ℕ) (x : Bound) → i < length xs → x ≡ get_or xs i x
    → bounds_of (drop i xs) ≡ bound_of x ∷ bounds_of (drop (i + 1) xs)
bounds_of-drop xs i x h e =
    ap bounds_of (drop_more xs i x h) ∙ ap (λ (y : Bound). bound_of y ∷ bounds_of (drop (i + 1) xs)) (sym e)

-- any function of the expressions of the rest of a list is the same function of the next one and those after it
pub at-bounds_of-drop : {Y : Type 0} (f : List plain.Bound → Y) (xs : List Bound) (i : ℕ) (x : Bound) → i < length xs
    → x ≡ get_or xs i x
    → f (bounds_of (drop i xs)) ≡ f (bound_of x ∷ bounds_of (drop (i + 1) xs))
at-bounds_of-drop f xs i x h e = ap f (bounds_of-drop xs i x h e)

-- at the end nothing is left
pub bounds_of-drop_all : (xs : List Bound) (i : ℕ) → length xs ≤ i → bounds_of (drop i xs) ≡ []
bounds_of-drop_all xs i h = ap bounds_of (drop_all i xs h)

-- an element of a list weighs no more than the heaviest
pub bounds_weight-at : (xs : List Bound) (i : ℕ) (x : Bound) → i < length xs → x ≡ get_or xs i x
    → bound_weight (bound_of x) ≤ bounds_weight (bounds_of xs)
bounds_weight-at [] i x h e = absurd (omega arith)
bounds_weight-at (y ∷ ys) zero x h e = omega (arith, ap (λ (z : Bound). bound_weight (bound_of z)) e)
bounds_weight-at (y ∷ ys) (suc i) x h e = omega (arith, bounds_weight-at ys i x (omega arith) e)

-- the weight of a bound as a factor is at most that of all factors
pub factors_weight-at : (xs : List Bound) (i : ℕ) (x : Bound) → i < length xs → x ≡ get_or xs i x
    → factor_weight (bound_of x) ≤ factors_weight (bounds_of xs)
factors_weight-at [] i x h e = absurd (omega arith)
factors_weight-at (y ∷ ys) zero x h e = omega (arith, ap (λ (z : Bound). factor_weight (bound_of z)) e)
factors_weight-at (y ∷ ys) (suc i) x h e = omega (arith, factors_weight-at ys i x (omega arith) e)

-- rewrites the view of a bound, with the parts of a node as a list
pub ruleset views = (seen, list_of-parts_of)
