-- The parts of a maximum that are needless because another part is above them.
use Rattle.std.specs.Prelude.{ℕ, ◌+◌, slice_index_or, take, drop, cond, Bool, List, [], ◌∷◌, ◌++◌}
use Rattle.std.specs.List.{list_any}
use Rattle.bound_expr.specs.model.Bounds.{Bound, Constant}
use Rattle.bound_table.specs.declared.kinds.Kind.{Kind}
use Rattle.bound_table.specs.declared.kinds.Kind.TheVariants.{AsMax}
use Rattle.bound_table.specs.Below.{below}

-- from the first part on: a part that is below another one still kept is dropped; `kept` are the parts before that are
-- kept
abbrev pub dominant_after : List Bound → List Bound → List Bound
dominant_after kept [] = kept
dominant_after kept (p ∷ ps) =
    cond (list_any (λ q. below p q) (kept ++ ps)) (dominant_after kept ps) (dominant_after (kept ++ p ∷ []) ps)

-- the parts of a maximum that aren't dropped
abbrev pub dominant : Kind → List Bound → List Bound
dominant AsMax ps = dominant_after [] ps
dominant k ps = ps

-- the part at a position is below another part of the list
abbrev pub below_another : List Bound → ℕ → Bool
below_another ps i = list_any (λ q. below (slice_index_or ps i (Constant 0)) q) (take i ps ++ drop (i + 1) ps)
