use Rattle.refined_programs.specs.its_model.Views.{program_of}
use Rattle.refined_programs.specs.Views.{annotated_of}
use Rattle.refinement_check.proofs.Stages.{in_halves}
use Rattle.refinement_check.proofs.accepting.section_fault.Goals as goal

pub returns : goal.returns
returns c =
    in_halves c.fault_by_halves.result (program_of c.args.p.now) (annotated_of c.args.section.now)
    c.fault_by_halves.ensures
