-- The computed fault is the first fault.
use Rattle.std.specs.Prelude.{◌≡◌, ◌↔◌, Some, None}
use Rattle.section_checks.specs.refined_programs.model.Programs.{Program}
use Rattle.section_checks.specs.refined_programs.Annotated.{Section}
use Rattle.section_checks.specs.Faults.{Fault, IsAccepted, IsFirstFault}
use Rattle.section_decide.specs.Deciding.{section_fault}

-- for every section and program: the computed fault is the first one, and none is computed exactly if the section is
-- accepted
pub record FaultsAreComputed : Type 0 where
  pub some : (p : Program) (s : Section) (fault : Fault) → (section_fault p s ≡ Some fault) ↔ IsFirstFault p s fault
  pub none : (p : Program) (s : Section) → (section_fault p s ≡ None) ↔ IsAccepted p s
