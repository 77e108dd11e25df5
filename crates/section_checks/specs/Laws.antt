-- Accepted sections are certified and spell valid programs, and first faults are unique.
use Rattle.std.specs.Prelude.{◌≡◌, map}
use Rattle.std.specs.List.{AllByRecursion}
use Rattle.refined_programs.specs.model.Programs.{Program}
use Rattle.refined_programs.specs.its_model.Valid.{IsValid}
use Rattle.refined_programs.specs.its_model.text_core.Names.{IsName, AreDistinct}
use Rattle.refined_programs.specs.refinement.Sections.{spelled}
use Rattle.refined_programs.specs.refinement.Laws.{SpellsTheRunsOf, FactsOfCopiesHold}
use Rattle.refined_programs.specs.Annotated.{Section, section_of}
use Rattle.refinement_rows.specs.Certified.{IsCertified}
use Rattle.section_checks.specs.Faults.{Fault, IsAccepted, IsFirstFault}

-- over a valid program an accepted section is certified, so the program that it spells has the runs of the program, its
-- bounds carry over, and what follows from the facts of each copy of a symbol holds there
pub record AcceptedSectionsAreCertified : Type 0 where
  pub certified : (p : Program) (s : Section) → IsValid p → IsAccepted p s → IsCertified p (section_of s)
  pub runs : (p : Program) (s : Section) → IsValid p → IsAccepted p s → SpellsTheRunsOf p (section_of s)
  pub facts : (p : Program) (s : Section) → IsValid p → IsAccepted p s → FactsOfCopiesHold p (section_of s)

-- the copies of a section have names, and these differ
pub record HasDistinctNames (s : Section) : Type 0 where
  pub names : AllByRecursion (λ c. IsName c.name) s.copies
  pub distinct : AreDistinct (map (λ c. c.name) s.copies)

-- over a valid program an accepted section whose copies have different names spells a valid program
pub record AcceptedSectionsSpellValid : Type 0 where
  pub valid : (p : Program) (s : Section) → IsValid p → HasDistinctNames s → IsAccepted p s
      → IsValid (spelled p (section_of s))

-- at most one fault is the first, and if there is one the section isn't accepted
pub record FirstFaultsAreUnique : Type 0 where
  pub excluded : (p : Program) (s : Section) (fault : Fault) → IsFirstFault p s fault → ¬ (IsAccepted p s)
  pub one : (p : Program) (s : Section) (fault other : Fault) → IsFirstFault p s fault → IsFirstFault p s other
      → fault ≡ other
