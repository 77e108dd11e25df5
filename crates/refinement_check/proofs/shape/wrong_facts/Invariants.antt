use Rattle.std.proofs.Common.{◌≡◌, ◌+◌, drop, map}
use Rattle.cert_rules.specs.Tests.{first_failing}
use Rattle.refined_programs.specs.its_model.Views.{program_of}
use Rattle.refined_programs.specs.Views.{annotated_copy}
use Rattle.section_decide.specs.Deciding.{fact_tests}
use Rattle.refinement_check.proofs.shape.wrong_facts.Given as goal

-- the first copy with wrong facts is among the copies left
abbrev pub invariant-loop-i : goal.invariant-loop-i
invariant-loop-i l =
    first_failing (fact_tests (program_of l.p) (l.i + 1) (map annotated_copy (drop l.i l.copies)))
    ≡ first_failing (fact_tests (program_of l.p) 1 (map annotated_copy l.copies))
