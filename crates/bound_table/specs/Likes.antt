-- Neighbouring parts of a sum with the same factors become one part.
use Rattle.std.specs.Prelude.{ℕ, ◌+◌, nat_le, cond, Bool, false, List, [], ◌∷◌}
use Rattle.std.specs.Ordering.{is_eq}
use Rattle.std.specs.Cmp.Lexicographic.{slice_cmp}
use Rattle.bound_expr.specs.model.Bounds.{Bound, Constant, ProductOf}
use Rattle.bound_expr.specs.Views.{parts_of}
use Rattle.bound_expr.specs.Limits.{constant_limit}
use Rattle.bound_table.specs.declared.kinds.Kind.{Kind}
use Rattle.bound_table.specs.declared.kinds.Kind.TheVariants.{AsSum}
use Rattle.bound_table.specs.Terms.{constant_of, factors_of}
use Rattle.bound_table.specs.Comparison.{compared}
use Rattle.bound_table.specs.Runs.{runs_of, all_runs_joined}

-- two lists of factors are the same, and not empty
abbrev pub are_same_factors : List Bound → List Bound → Bool
are_same_factors [] gs = false
are_same_factors (f ∷ fs) gs = is_eq (slice_cmp compared (f ∷ fs) gs)

-- two parts have the same factors, at least one
abbrev pub is_like : Bound → Bound → Bool
is_like p q = are_same_factors (factors_of p) (factors_of q)

-- the sum of the constants of the parts
abbrev pub constants_total : List Bound → ℕ
constants_total [] = 0
constants_total (p ∷ ps) = constant_of p + constants_total ps

-- a constant times factors
abbrev pub times : ℕ → List Bound → Bound
times c fs = ProductOf (parts_of (Constant c ∷ fs))

-- two or more parts of a run become one, where the sum of their constants is at most 2^127 - 1
abbrev pub joined_list : List Bound → List Bound
joined_list [] = []
joined_list (p ∷ []) = p ∷ []
joined_list (p ∷ q ∷ qs) =
    cond (nat_le (constants_total (p ∷ q ∷ qs)) constant_limit)
    (times (constants_total (p ∷ q ∷ qs)) (factors_of p) ∷ []) (p ∷ q ∷ qs)

-- the like parts of a sum joined
abbrev pub likes_joined : Kind → List Bound → List Bound
likes_joined AsSum ps = all_runs_joined joined_list (runs_of is_like ps)
likes_joined k ps = ps
