-- The answer on a whole file.
use Rattle.std.specs.Prelude.{◌≡◌, List, Option, Some, ⊤, IsSomeAnd}
use Rattle.model.specs.Programs.{Program}
use Rattle.section_checks.specs.Faults.{IsFirstFault}
use Rattle.section_checks.specs.Laws.{HasDistinctNames}
use Rattle.refined_programs.specs.Annotated.{Section}
use Rattle.refinement_check.specs.Views as section_views
use Rattle.cert_types.specs.AnswerViews.{reason_of, fault_of}
use Rattle.cert_types.specs.cert_rules.Refusals.{IsRefusedAt, IsRefusedAtGap}
use Rattle.cert_types.specs.cert_program.Setting.{setting_of}
use Rattle.cert_types.specs.cert_program.RankedSets.{forms_at}
use Rattle.check_potentials.specs.Lists as lemma_views
use Rattle.program_claims.specs.Claims.{Stated}
use Rattle.program_claims.specs.Acceptance.{ClaimRefusal, first_refused}
use Rattle.claims_check.specs.Views as claim_views
use Rattle.refined_files.specs.Files.{RefinedFile, IsSectionAccepted, IsAcceptedFor, program_above, evidence_in}
use Rattle.refined_files.specs.Files.{stated_in}
use Rattle.check_refined.specs.Refusals.{AcceptsLemmas, RefusesSigned}
use Rattle.check_refined.specs.declared.refusal.FileRefusal.{FileRefusal}
use Rattle.check_refined.specs.declared.refusal.FileRefusal.TheVariants as by

-- the section, where there is one, is accepted, and this is the program that it spells, or else the program itself
pub record IsSpelledOrItself (p : Program) (section : Option Section) (spelled_program : Program) : Type 0 where
  pub accepted : IsSectionAccepted p section
  pub program : spelled_program ≡ program_above p section

-- a file is accepted for a program, and its claims state this, in order
pub record IsAcceptedWith (p : Program) (f : RefinedFile) (stated : List Stated) : Type 0 where
  pub accepted : IsAcceptedFor p f
  pub statements : stated ≡ stated_in p f

-- the lemmas of a file with an accepted section are accepted
pub record HasAcceptedLemmas (p : Program) (f : RefinedFile) : Type 0 where
  pub section : IsSectionAccepted p f.section
  pub lemmas : AcceptsLemmas (program_above p f.section) f.plain f.signed

-- A file is refused for the first of its parts that isn't accepted: for the names of the copies of its section; for the
-- section's first fault; at the first node, or else at the first gap, of its plain part; at its first lemma about
-- potentials; or at its first claim that isn't accepted. Want of memory says nothing.
abbrev pub RefusesFile : Program → RefinedFile → FileRefusal → Type 0
RefusesFile p f by.Names = IsSomeAnd f.section (λ s. ¬ (HasDistinctNames s))
RefusesFile p f (by.Section fault) =
    IsSomeAnd f.section (λ s. HasDistinctNames s × IsFirstFault p s (section_views.fault_of fault))
RefusesFile p f (by.Node lemma node reason) =
    IsSectionAccepted p f.section
    × IsRefusedAt (setting_of (program_above p f.section)) f.plain.lemmas lemma node (reason_of reason)
RefusesFile p f (by.Gap gap fault) =
    IsSectionAccepted p f.section
    × IsRefusedAtGap (setting_of (program_above p f.section)) (forms_at (program_above p f.section)) f.plain gap
    (fault_of fault)
RefusesFile p f (by.Lemma r) =
    IsSectionAccepted p f.section
    × RefusesSigned (program_above p f.section) f.plain f.signed (lemma_views.refusal_of r)
RefusesFile p f (by.Claim r) =
    HasAcceptedLemmas p f × (first_refused (evidence_in p f) 1 f.claims ≡ Some (claim_views.refusal_of r))
RefusesFile p f by.Memory = ⊤

-- the refusal is for a fault of the file, and not for want of memory
abbrev pub IsForFault : FileRefusal → Type 0
IsForFault by.Names = ⊤
IsForFault (by.Section fault) = ⊤
IsForFault (by.Node lemma node reason) = ⊤
IsForFault (by.Gap gap fault) = ⊤
IsForFault (by.Lemma r) = ⊤
IsForFault (by.Claim r) = ⊤
IsForFault by.Memory = ⊥

-- a file that is refused for a fault isn't accepted
pub record RefusedFilesAreNotAccepted : Type 0 where
  pub excluded : (p : Program) (f : RefinedFile) (r : FileRefusal) → IsForFault r → RefusesFile p f r
      → ¬ (IsAcceptedFor p f)
