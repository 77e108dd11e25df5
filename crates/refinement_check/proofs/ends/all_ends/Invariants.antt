use Rattle.std.proofs.Common.{◌≡◌, ◌++◌, drop, map}
use Rattle.refined_programs.specs.Views.{section_of, annotated_branch}
use Rattle.refinement_check.specs.Views.{numbered_end_of, numbered_ends}
use Rattle.refinement_check.proofs.ends.all_ends.Given as goal

-- the ends of the branches passed and those of the branches left are all
abbrev pub invariant-loop-branch : goal.invariant-loop-branch
invariant-loop-branch l =
    map numbered_end_of l.ends.items
    ++ numbered_ends (section_of l.section) (map annotated_branch (drop l.branch-index l.section.branches.items))
    ≡ numbered_ends (section_of l.section) (map annotated_branch l.section.branches.items)
