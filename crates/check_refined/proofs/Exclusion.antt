-- Files that are refused for a fault aren't accepted.
use Rattle.std.proofs.Common.{◌≡◌, Option, Some, None, sym, ◌∙◌}
use Rattle.std.specs.Prelude.{IsSomeAnd}
use Rattle.model.specs.Programs.{Program}
use Rattle.refined_programs.specs.Annotated.{Section}
use Rattle.section_checks.specs.Faults.{Fault, IsFirstFault}
use Rattle.section_checks.specs.Laws.{HasDistinctNames}
use Rattle.section_checks.proofs.Deciding.{first_faults_are_unique}
use Rattle.refinement_check.specs.Views.{fault_of}
use Rattle.cert_types.specs.AnswerViews as nodes
use Rattle.cert_types.specs.cert_program.Setting.{setting_of}
use Rattle.cert_types.specs.cert_program.RankedSets.{forms_at}
use Rattle.cert_types.proofs.cert_rules.FilesInLine.{file-refusals-in-line}
use Rattle.refined_files.specs.Files.{RefinedFile, IsAcceptedFor, IsSectionAccepted, program_above}
use Rattle.check_refined.specs.Files.{IsForFault, RefusesFile, RefusedFilesAreNotAccepted}
use Rattle.check_refined.specs.declared.refusal.FileRefusal.{FileRefusal}
use Rattle.check_refined.specs.declared.refusal.FileRefusal.TheVariants as by

-- nothing is something
none-some : {A : Type 0} (o : Option A) (x : A) → o ≡ None → o ≡ Some x → ⊥
none-some o x e k = cc

-- an accepted section isn't refused for the names of its copies, nor for a fault
names-off : (p : Program) (o : Option Section) → IsSomeAnd o (λ s. ¬ (HasDistinctNames s)) → ¬ (IsSectionAccepted p o)
names-off p None h a = absurd h
names-off p (Some s) h a = absurd (h a.0)

fault-off : (p : Program) (o : Option Section) (fault : Fault)
    → IsSomeAnd o (λ s. HasDistinctNames s × IsFirstFault p s fault) → ¬ (IsSectionAccepted p o)
fault-off p None fault h a = absurd h
fault-off p (Some s) fault h a = absurd (first_faults_are_unique.excluded p s fault h.1 a.1)

not-accepted : (p : Program) (f : RefinedFile) (r : FileRefusal) → IsForFault r → RefusesFile p f r
    → ¬ (IsAcceptedFor p f)
not-accepted p f by.Names is_fault h a = names-off p f.section h a.section
not-accepted p f (by.Section fault) is_fault h a = fault-off p f.section (fault_of fault) h a.section
not-accepted p f (by.Node lemma node reason) is_fault h a =
    let q = program_above p f.section in
    ((file-refusals-in-line.none (setting_of q) (forms_at q) f.plain).0 a.plain).0.none lemma node
    (nodes.reason_of reason) h.1
not-accepted p f (by.Gap gap fault) is_fault h a =
    let q = program_above p f.section in
    ((file-refusals-in-line.none (setting_of q) (forms_at q) f.plain).0 a.plain).1.none gap (nodes.fault_of fault) h.1
not-accepted p f (by.Lemma r) is_fault h a = none-some _ _ a.signed h.1.first
not-accepted p f (by.Claim r) is_fault h a = none-some _ _ a.claims h.1
not-accepted p f by.Memory is_fault h a = absurd is_fault

pub refused-not-accepted : RefusedFilesAreNotAccepted
refused-not-accepted = record { excluded = not-accepted }
