use Rattle.std.proofs.Common.{◌≡◌, ◌++◌, drop, map}
use Rattle.refined_programs.specs.its_model.Views.{program_of}
use Rattle.refined_programs.specs.Views.{annotated_copy}
use Rattle.section_checks.specs.Faults.{due}
use Rattle.refinement_check.specs.Views.{due_of}
use Rattle.refinement_check.proofs.due.due_branches.Given as goal

-- the required branches of the copies passed and those of the copies left are all
abbrev pub invariant-loop-i : goal.invariant-loop-i
invariant-loop-i l =
    map due_of l.dues.items ++ due (program_of l.p) l.i (map annotated_copy (drop l.i l.copies))
    ≡ due (program_of l.p) 0 (map annotated_copy l.copies)
