use Rattle.std.proofs.Common.{◌≡◌, ◌+◌, drop, map}
use Rattle.cert_rules.specs.Tests.{first_failing}
use Rattle.refined_programs.specs.its_model.Views.{program_of}
use Rattle.refined_programs.specs.Views.{copy_of}
use Rattle.section_decide.specs.Deciding.{limit_tests}
use Rattle.refinement_check.specs.Views.{numbered_end_of, placed}
use Rattle.refinement_check.proofs.accepting.over_limit.Given as goal

-- whether some end is over the limits depends on the ends left
abbrev pub invariant-loop-i : goal.invariant-loop-i
invariant-loop-i l =
    first_failing (limit_tests (map copy_of l.copies) (l.i + 1)
    (map (placed (program_of l.p)) (map numbered_end_of (drop l.i l.ends))))
    ≡ first_failing (limit_tests (map copy_of l.copies) 1 (map (placed (program_of l.p)) (map numbered_end_of l.ends)))
