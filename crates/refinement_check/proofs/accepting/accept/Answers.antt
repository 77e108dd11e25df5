use Rattle.std.proofs.Common.{◌≡◌, Option, subst}
use Rattle.std.specs.Prelude.{option_map}
use Rattle.refined_programs.specs.its_model.Views.{program_of}
use Rattle.refined_programs.specs.Views.{annotated_of}
use Rattle.section_decide.specs.Deciding.{section_fault}
use Rattle.refinement_check.specs.declared.fault.SectionFault.{SectionFault}
use Rattle.refinement_check.specs.Views.{fault_of}
use Rattle.refinement_check.proofs.Stages.{accepted_by, first_by}
use Rattle.refinement_check.proofs.accepting.accept.Goals as goal

pub returns-in-Ok-None : goal.returns-in-Ok-None
returns-in-Ok-None c =
    let p = program_of c.args.p.now in
    let s = annotated_of c.args.section.now in
    accepted_by p s
    (subst (λ (o : Option SectionFault). option_map fault_of o ≡ section_fault p s) c.in-Ok-None.field-0-is
    c.in-Ok-None.ensures)

pub returns-in-Ok-Some : goal.returns-in-Ok-Some
returns-in-Ok-Some c =
    let p = program_of c.args.p.now in
    let s = annotated_of c.args.section.now in
    first_by p s (fault_of c.in-Ok-Some.fault)
    (subst (λ (o : Option SectionFault). option_map fault_of o ≡ section_fault p s) c.in-Ok-Some.field-0-is
    c.in-Ok-Some.ensures)
