use Rattle.std.proofs.Common.{◌≡◌, ◌+◌, drop, map}
use Rattle.cert_rules.specs.Tests.{first_failing}
use Rattle.refined_programs.specs.Views.{annotated_branch}
use Rattle.section_decide.specs.Deciding.{branch_tests}
use Rattle.refinement_check.specs.Views.{due_of}
use Rattle.refinement_check.proofs.due.wrong_branch.Given as goal

-- the first fault is that of the branches left and the required ones left
abbrev pub invariant-loop-i : goal.invariant-loop-i
invariant-loop-i l =
    first_failing (branch_tests (l.i + 1) (map annotated_branch (drop l.i l.branches)) (map due_of l.rest))
    ≡ first_failing (branch_tests 1 (map annotated_branch l.branches) (map due_of l.dues))
