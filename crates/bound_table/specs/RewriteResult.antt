-- Rewriting within the limits.
use Rattle.std.specs.Prelude.{ℕ, if◌then◌else◌, ⊤}
use Rattle.bound_expr.specs.model.Bounds.{Bound}
use Rattle.bound_expr.specs.Views.{bound_of}
use Rattle.bound_expr.specs.Measure.{capped_node_count, is_large}
use Rattle.bound_table.specs.declared.within.RewriteResult as code
use Rattle.bound_table.specs.declared.within.RewriteResult.TheVariants.{Rewritten, Large}
use Rattle.bound_table.specs.InForce.{rewritten}

-- the rewritten bound, or the number of nodes of a bound that is too large
pub data Answer : Type 0 where
  Fits : Bound → Answer
  TooLarge : ℕ → Answer

-- an answer of the code as plain data
abbrev pub answer_of : code.RewriteResult → Answer
answer_of (Rewritten b) = Fits (bound_of b)
answer_of (Large nodes) = TooLarge nodes

-- a bound that is not large
abbrev pub unless_large : Bound → Answer
unless_large b = if is_large b then TooLarge (capped_node_count b) else Fits b

-- a bound that is large is not rewritten, and neither it nor its rewriting may be large
unfoldable pub rewritten_within : Bound → Answer
rewritten_within b = if is_large b then TooLarge (capped_node_count b) else unless_large (rewritten b)

-- the property holds of the rewritten bound, if the answer has one
abbrev pub WhereFits : Answer → (Bound → Type 0) → Type 0
WhereFits (Fits b) P = P b
WhereFits (TooLarge nodes) P = ⊤
