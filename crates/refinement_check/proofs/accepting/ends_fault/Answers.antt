use Rattle.std.proofs.Common.{map, ap, ◌∙◌}
use Rattle.refined_programs.specs.its_model.Views.{program_of}
use Rattle.refinement_check.specs.Views.{numbered_end_of}
use Rattle.refinement_check.proofs.EndLists.{ok_ends_agree}
use Rattle.refinement_check.proofs.accepting.ends_fault.Goals as goal

pub returns : goal.returns
returns c =
    ok_ends_agree c.fault_of_ends.result (program_of c.args.p.now) c.args.section.now c.deref.result.now
    (map numbered_end_of c.deref-2.result.now) c.deref.ensures.value
    (ap (map numbered_end_of) c.deref-2.ensures.value ∙ c.in_ok-ends.ensures) c.fault_of_ends.ensures
