use Rattle.std.proofs.Common.{◌≡◌, ◌+◌, drop, map, None}
use Rattle.cert_rules.specs.Tests.{first_failing}
use Rattle.refined_programs.specs.its_model.Views.{program_of}
use Rattle.refined_programs.specs.Views.{copy_of}
use Rattle.section_decide.specs.Deciding.{limit_tests, certificate_tests, first_in_stages}
use Rattle.refinement_check.specs.Views.{numbered_end_of, placed}
use Rattle.refinement_check.proofs.accepting.unmet_end.Given as goal

-- the first fault is that of the ends left, which are within the limits
abbrev pub invariant-loop-i : goal.invariant-loop-i
invariant-loop-i l =
    record {
      decide : first_in_stages (certificate_tests (map copy_of l.copies) (l.i + 1)
          (map (placed (program_of l.p)) (map numbered_end_of (drop l.i l.ends))))
          ≡ first_in_stages (certificate_tests (map copy_of l.copies) 1
          (map (placed (program_of l.p)) (map numbered_end_of l.ends)));
      within : first_failing (limit_tests (map copy_of l.copies) (l.i + 1)
          (map (placed (program_of l.p)) (map numbered_end_of (drop l.i l.ends)))) ≡ None;
    }
