use Rattle.std.proofs.Common.{◌∙◌, ℕ, Err, Some, ap}
use Rattle.std.specs.Prelude.{option_map}
use Rattle.its_model.specs.Views.{program_of}
use Rattle.refined_programs.specs.Views.{annotated_of}
use Rattle.refined_programs.specs.declared.section.Section.{Section}
use Rattle.section_text.specs.Refusals as errors
use Rattle.refined_text.specs.Kinds.{kind_of_section}
use Rattle.refined_text.specs.Outcomes.{text_refusal, TextReads}
use Rattle.refined_text.specs.Parts.{section_text, Accepts}
use Rattle.refined_text.specs.Results.{refusal_in}
use Rattle.refined_text.proofs.Steps.{refused-says, next-says, stops-says, section-says}
use Rattle.refined_text.proofs.section.accepted_section.Goals as goal

pub returns-in-Ok : goal.returns-in-Ok
returns-in-Ok c =
    let p = program_of c.args.program.now in
    let bytes = c.args.part.now.text.now in
    section-says (λ (s : Section). Some (annotated_of s)) p bytes c.accepted.result c.requires.some
    (next-says (λ (s : Section). Some (annotated_of s)) (TextReads (section_text p bytes)) (Accepts p)
    (annotated_of c.in-Ok.section) c.accepted.result c.in-Ok.ensures c.accepted.ensures)

pub returns-in-Err : goal.returns-in-Err
returns-in-Err c =
    let p = program_of c.args.program.now in
    let bytes = c.args.part.now.text.now in
    section-says (λ (s : Section). Some (annotated_of s)) p bytes (Err c.of_section.result) c.requires.some
    (stops-says (TextReads (section_text p bytes)) (Accepts p) (refusal_in c.of_section.result)
    (refused-says (section_text p bytes) (errors.refusal_in c.in-Err.error) (refusal_in c.of_section.result)
    (c.of_section.ensures
    ∙ ap (λ (n : ℕ). option_map (text_refusal kind_of_section n) (errors.refusal_in c.in-Err.error)) c.requires.begins)
    c.in-Err.ensures))
