-- The law of accepted sections, for sections of the code.
use Rattle.std.proofs.Common.{subst}
use Rattle.refined_programs.specs.refinement.Sections as plain
use Rattle.refined_programs.specs.refinement.Sections.{spelled}
use Rattle.refined_programs.specs.refinement.Laws.{SpellsTheRunsOf, FactsOfCopiesHold}
use Rattle.refined_programs.specs.its_model.Valid.{IsValid}
use Rattle.refined_programs.specs.Views.{annotated_of}
use Rattle.refined_programs.proofs.AnnotatedLaws.{section-agrees}
use Rattle.refinement_rows.specs.Certified.{IsCertified}
use Rattle.section_checks.proofs.Deciding.{accepted_sections_are_certified, accepted_sections_spell_valid}
use Rattle.refinement_check.specs.Laws.{AcceptedSectionsKeepBounds}

pub accepted_sections_keep_bounds : AcceptedSectionsKeepBounds
accepted_sections_keep_bounds = record {
  certified = λ p s valid accepted. subst (λ (x : plain.Section). IsCertified p x) (section-agrees s)
      (accepted_sections_are_certified.certified p (annotated_of s) valid accepted);
  runs = λ p s valid accepted. subst (λ (x : plain.Section). SpellsTheRunsOf p x) (section-agrees s)
      (accepted_sections_are_certified.runs p (annotated_of s) valid accepted);
  facts = λ p s valid accepted. subst (λ (x : plain.Section). FactsOfCopiesHold p x) (section-agrees s)
      (accepted_sections_are_certified.facts p (annotated_of s) valid accepted);
  valid = λ p s valid named accepted. subst (λ (x : plain.Section). IsValid (spelled p x)) (section-agrees s)
      (accepted_sections_spell_valid.valid p (annotated_of s) valid named accepted);
}
