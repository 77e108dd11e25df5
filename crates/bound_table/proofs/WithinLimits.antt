-- The result of rewriting within the limits is the rewritten bound, and not large.
use Rattle.std.proofs.Common.{◌≡◌, Bool, true, false, if◌then◌else◌, refl, sym, subst}
use Rattle.bound_expr.specs.model.Bounds.{Bound}
use Rattle.bound_expr.specs.Measure.{is_large}
use Rattle.bound_table.specs.InForce.{rewritten}
use Rattle.bound_expr.specs.Measure.{capped_node_count}
use Rattle.bound_table.specs.RewriteResult.{Answer, Fits, TooLarge, unless_large, rewritten_within, WhereFits}

-- a property that holds of a bound that is not large holds of the answer that refuses large bounds
unless_large-fits : (P : Bound → Type 0) (b : Bound) → (is_large b ≡ false → P b) → WhereFits (unless_large b) P
unless_large-fits P b fits = go (is_large b) refl
  where
    go : (large : Bool) → is_large b ≡ large → WhereFits (if large then TooLarge (capped_node_count b) else Fits b) P
    go true is = tt
    go false is = fits is

-- a property of the rewritten bound, if that is not large, is one of the result of `rewritten_within`
pub rewritten_within-fits : (P : Bound → Type 0) (b : Bound) → (is_large (rewritten b) ≡ false → P (rewritten b))
    → WhereFits (rewritten_within b) P
unfolding rewritten_within
rewritten_within-fits P b fits = go (is_large b) (unless_large-fits P (rewritten b) fits)
  where
    go : (large : Bool) → WhereFits (unless_large (rewritten b)) P
        → WhereFits (if large then TooLarge (capped_node_count b) else unless_large (rewritten b)) P
    go true after = tt
    go false after = after

-- the property holds of every answer of the code that agrees with the definition
pub answer-fits : (P : Bound → Type 0) (b : Bound) (answer : Answer)
    → (is_large (rewritten b) ≡ false → P (rewritten b))
    → answer ≡ rewritten_within b → WhereFits answer P
answer-fits P b answer fits is = subst (λ (a : Answer). WhereFits a P) (sym is) (rewritten_within-fits P b fits)
