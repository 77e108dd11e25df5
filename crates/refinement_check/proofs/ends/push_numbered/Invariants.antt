use Rattle.std.proofs.Common.{◌≡◌, ◌++◌, map}
use Rattle.refined_programs.specs.Ends.{end_of}
use Rattle.refinement_check.specs.Views.{numbered, numbered_end_of}
use Rattle.refinement_check.proofs.ends.push_numbered.Given as goal

-- the ends passed are appended to those before
abbrev pub invariant-loop-end : goal.invariant-loop-end
invariant-loop-end l =
    map numbered_end_of l.ends.items
    ≡ map numbered_end_of l.fn.ends.items ++ map (numbered l.source l.rule) (map end_of l.yielded)
