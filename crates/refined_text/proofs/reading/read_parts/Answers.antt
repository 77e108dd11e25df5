use Rattle.std.proofs.Common.{Some}
use Rattle.its_model.specs.Views.{program_of}
use Rattle.refined_programs.specs.Views.{annotated_of}
use Rattle.refined_text.proofs.Accepted.{section_accepted}
use Rattle.refined_text.proofs.reading.read_parts.Goals as goal

pub read_with_section-requires-clause-accepted : goal.read_with_section-requires-clause-accepted
read_with_section-requires-clause-accepted c =
    section_accepted (program_of c.args.program.now) c.args.parts.now.section.text.now
    (Some (annotated_of c.in-Ok.section)) c.in-Ok.ensures
