use Rattle.std.proofs.Common.{◌≡◌, ◌++◌, drop, map}
use Rattle.refinement_check.specs.Views.{numbered_end_of, sources_of}
use Rattle.refinement_check.proofs.ends.sources_at_copies.Given as goal

-- the copies of the ends passed and those of the ends left are all
abbrev pub invariant-loop-end : goal.invariant-loop-end
invariant-loop-end l =
    l.sources.items ++ sources_of (map numbered_end_of (drop l.end-index l.ends)) ≡ sources_of (map numbered_end_of l.ends)
