use Rattle.std.proofs.Common.{◌≡◌, ◌+◌, drop, map}
use Rattle.cert_rules.specs.Tests.{first_failing}
use Rattle.refined_programs.specs.its_model.Views.{program_of}
use Rattle.refined_programs.specs.Views.{annotated_branch}
use Rattle.section_decide.specs.Deciding.{width_tests}
use Rattle.refinement_check.proofs.shape.wrong_test.Given as goal

-- the first branch with a wrong test is among the branches left
abbrev pub invariant-loop-i : goal.invariant-loop-i
invariant-loop-i l =
    first_failing (width_tests (program_of l.p) (l.i + 1) (map annotated_branch (drop l.i l.branches)))
    ≡ first_failing (width_tests (program_of l.p) 1 (map annotated_branch l.branches))
