-- The law of accepted sections.
use Rattle.refined_programs.specs.model.Programs.{Program}
use Rattle.refined_programs.specs.its_model.Valid.{IsValid}
use Rattle.refined_programs.specs.declared.section.Section.{Section}
use Rattle.refined_programs.specs.refinement.Sections.{spelled}
use Rattle.refined_programs.specs.refinement.Laws.{SpellsTheRunsOf, FactsOfCopiesHold}
use Rattle.refined_programs.specs.Views.{section_of, annotated_of}
use Rattle.refinement_rows.specs.Certified.{IsCertified}
use Rattle.section_checks.specs.Faults.{IsAccepted}
use Rattle.section_checks.specs.Laws.{HasDistinctNames}

-- over a valid program an accepted section is certified, so the program that it spells has the runs of the program, its
-- bounds carry over, and what follows from the facts of each copy of a symbol holds there; and if its copies have
-- different names, the spelled program is valid
pub record AcceptedSectionsKeepBounds : Type 0 where
  pub certified : (p : Program) (s : Section) → IsValid p → IsAccepted p (annotated_of s) → IsCertified p (section_of s)
  pub runs : (p : Program) (s : Section) → IsValid p → IsAccepted p (annotated_of s) → SpellsTheRunsOf p (section_of s)
  pub facts : (p : Program) (s : Section) → IsValid p → IsAccepted p (annotated_of s) → FactsOfCopiesHold p (section_of s)
  pub valid : (p : Program) (s : Section) → IsValid p → HasDistinctNames (annotated_of s) → IsAccepted p (annotated_of s)
      → IsValid (spelled p (section_of s))
