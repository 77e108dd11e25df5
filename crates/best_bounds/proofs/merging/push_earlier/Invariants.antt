use Rattle.std.proofs.Common.{◌≡◌, ◌++◌, map, length}
use Rattle.claims_check.specs.Views.{stated_of}
use Rattle.best_bounds.proofs.merging.push_earlier.Given as goal

-- the statements that are left, behind what is there, are what was there and all
abbrev pub invariant-loop-first : goal.invariant-loop-first
invariant-loop-first l =
    map stated_of l.merged.items ++ map stated_of l.left
    ≡ map stated_of l.initial.merged.items ++ map stated_of l.found

abbrev pub decreases-loop-first : goal.decreases-loop-first
decreases-loop-first l = length l.left
