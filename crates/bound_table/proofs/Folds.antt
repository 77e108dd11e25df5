-- Constants joined one after another.
use Rattle.std.proofs.Common.{◌≡◌, ℕ, ◌*◌, ◌≤◌, min, List, ◌∷◌, refl, ap, ◌∙◌, arith}
use Rattle.bound_expr.specs.model.Bounds.{Bound, Constant, Input, SumOf, ProductOf, MaximumOf, PowerOf}
use Rattle.bound_expr.specs.Limits.{cap}
use Rattle.bound_expr.specs.Capped.{capped}
use Rattle.bound_expr.proofs.Caps.{min-mul_left}
use Rattle.bound_table.specs.declared.kinds.Kind.{Kind}
use Rattle.bound_table.specs.declared.kinds.Kind.TheVariants.{AsSum, AsProd, AsMax}
use Rattle.bound_table.specs.Kinds.{joined, all_joined}
use Rattle.bound_table.specs.Folding.{constants_in, total_with}

-- a capped total changes nothing up to the cap
joined-capped : (k : Kind) (total c rest limit : ℕ)
    → min (joined k (min (joined k total c) limit) rest) limit ≡ min (joined k total (joined k c rest)) limit
joined-capped AsSum total c rest limit = omega arith
joined-capped AsProd total c rest limit =
    min-mul_left (total * c) rest limit ∙ ap (λ (v : ℕ). min v limit) (omega arith)
joined-capped AsMax total c rest limit = omega arith

-- joining a total with one more part gives the next total
pub total_with-step : (k : Kind) (total : ℕ) (p : Bound) (ps : List Bound)
    → capped (joined k (total_with k total p) (all_joined k (constants_in ps)))
    ≡ capped (joined k total (all_joined k (constants_in (p ∷ ps))))
total_with-step k total (Constant c) ps = joined-capped k total c (all_joined k (constants_in ps)) cap
total_with-step k total (Input i) ps = refl
total_with-step k total (SumOf qs) ps = refl
total_with-step k total (ProductOf qs) ps = refl
total_with-step k total (MaximumOf qs) ps = refl
total_with-step k total (PowerOf c e) ps = refl

-- a total within the cap stays within it
pub total_with-small : (k : Kind) (total : ℕ) (p : Bound) → total ≤ cap → total_with k total p ≤ cap
total_with-small k total (Constant c) small = omega arith
total_with-small k total (Input i) small = small
total_with-small k total (SumOf qs) small = small
total_with-small k total (ProductOf qs) small = small
total_with-small k total (MaximumOf qs) small = small
total_with-small k total (PowerOf c e) small = small
