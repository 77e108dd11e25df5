use Rattle.std.proofs.Common.{◌≡◌, ◌++◌, drop, map}
use Rattle.its_model.specs.Views.{program_of}
use Rattle.refined_programs.specs.Views.{branch_of}
use Rattle.claims_check.specs.Below.{all_numbers}
use Rattle.claims_check.proofs.below.copied_rules.Given as goal

-- the rules of the branches passed and those of the branches left are all
abbrev pub invariant-loop-branch : goal.invariant-loop-branch
invariant-loop-branch l =
    l.below.items ++ all_numbers (program_of l.program) (map branch_of (drop l.branch-index l.section.branches.items))
    ≡ all_numbers (program_of l.program) (map branch_of l.section.branches.items)
