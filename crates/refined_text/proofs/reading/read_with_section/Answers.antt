use Rattle.std.proofs.Common.{◌≡◌, ◌∙◌, Some, ap, sym, subst}
use Rattle.its_model.specs.model.Programs.{Program}
use Rattle.its_model.specs.Valid.{IsValid}
use Rattle.its_model.specs.Views.{program_of}
use Rattle.refined_programs.specs.refinement.Sections as plain
use Rattle.refined_programs.specs.refinement.Sections.{spelled}
use Rattle.refined_programs.specs.Views.{annotated_of}
use Rattle.refined_programs.proofs.AnnotatedLaws.{section-agrees}
use Rattle.refined_files.specs.Files.{program_above}
use Rattle.proof_parts.specs.Views.{parts_of}
use Rattle.refined_types.specs.Views.{file_view}
use Rattle.refined_text.specs.Files.{LinesRead}
use Rattle.refined_text.specs.Results.{Says}
use Rattle.refined_text.proofs.reading.read_with_section.Goals as goal

pub read_lines-requires-clause-valid : goal.read_lines-requires-clause-valid
read_lines-requires-clause-valid c =
    let p = program_of c.args.program.now in
    subst (λ (q : Program). IsValid q) (sym c.in_ok-spelled_program.ensures)
    (c.accepted_sections_keep_bounds.ensures.valid p c.args.section c.requires.valid c.requires.accepted.0
    c.requires.accepted.1)

pub returns : goal.returns
returns c =
    let p = program_of c.args.program.now in
    let parts = parts_of c.args.parts.now in
    let s = annotated_of c.args.section in
    let same : program_of c.in_ok-spelled_program.spelled_program ≡ program_above p (Some s) =
    c.in_ok-spelled_program.ensures ∙ ap (λ (t : plain.Section). spelled p t) (sym (section-agrees c.args.section)) in
    subst (λ (q : Program). Says file_view (LinesRead q parts (Some s)) c.read_lines.result) same c.read_lines.ensures
