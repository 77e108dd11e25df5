-- A program that a section of the code spells is the program above its plain file.
use Rattle.std.proofs.Common.{◌≡◌, Some, sym, ◌∙◌, ap}
use Rattle.model.specs.Programs.{Program}
use Rattle.refined_programs.specs.refinement.Sections as plain
use Rattle.refined_programs.specs.refinement.Sections.{spelled}
use Rattle.refined_programs.specs.Views.{annotated_of, section_of}
use Rattle.refined_programs.specs.declared.section.Section.{Section}
use Rattle.refined_programs.proofs.AnnotatedLaws.{section-agrees}
use Rattle.refined_files.specs.Files.{program_above}

pub spelled-above : (p q : Program) (s : Section) → q ≡ spelled p (section_of s)
    → q ≡ program_above p (Some (annotated_of s))
spelled-above p q s e = e ∙ ap (λ (x : plain.Section). spelled p x) (sym (section-agrees s))
