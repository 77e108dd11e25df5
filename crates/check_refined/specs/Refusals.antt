-- Sections and lemmas of files that are accepted, and refusals of those that aren't.
use Rattle.std.specs.Prelude.{◌≡◌, List, Some, None, ⊤}
use Rattle.model.specs.Programs.{Program}
use Rattle.its_model.specs.Valid.{IsValid}
use Rattle.signed_bounds.specs.Safe.{expands_to_squares}
use Rattle.refinement.specs.Sections.{spelled}
use Rattle.refined_programs.specs.Annotated.{Section, section_of}
use Rattle.section_checks.specs.Faults.{IsAccepted, IsFirstFault}
use Rattle.section_checks.specs.Laws.{HasDistinctNames}
use Rattle.refinement_check.specs.Views as section_views
use Rattle.refinement_check.specs.declared.fault.AcceptError.{AcceptError}
use Rattle.refinement_check.specs.declared.fault.AcceptError.TheVariants as section_errors
use Rattle.cert_types.specs.AnswerViews.{reason_of, fault_of}
use Rattle.cert_types.specs.cert_rules.Gaps.{ProofFile}
use Rattle.cert_types.specs.cert_rules.Refusals.{IsRefusedAt, IsRefusedAtGap}
use Rattle.cert_types.specs.cert_program.Setting.{setting_of}
use Rattle.cert_types.specs.cert_program.RankedSets.{forms_at}
use Rattle.cert_types.specs.cert_program.Laws.{AcceptsFileFor}
use Rattle.check_file.specs.declared.error.CheckError.{CheckError}
use Rattle.check_file.specs.declared.error.CheckError.TheVariants as plain_errors
use Rattle.potential_nodes.specs.Facts.{SignedFact}
use Rattle.potential_nodes.specs.SignedNodes.{SignedLemma}
use Rattle.potential_nodes.specs.Acceptance.{Refusal, first_refusal}
use Rattle.potential_ground.specs.RowTerms.{ground_of}
use Rattle.check_potentials.specs.Lists.{refusal_of}
use Rattle.check_potentials.specs.declared.lemmas.LemmaFault.{LemmaFault}
use Rattle.check_potentials.specs.declared.lemmas.LemmaFault.TheVariants as lemma_errors
use Rattle.claims_check.specs.declared.reason.ClaimsError.{ClaimsError}
use Rattle.claims_check.specs.declared.reason.ClaimsError.TheVariants as claim_errors
use Rattle.refined_files.specs.Files.{plain_signed, all_signed}
use Rattle.check_refined.specs.declared.refusal.FileRefusal.{FileRefusal}
use Rattle.check_refined.specs.declared.refusal.FileRefusal.TheVariants as by

-- the refusal of a file for the error of its section, of its plain part, of its lemmas about potentials, and of its
-- claims
abbrev pub section_refusal : AcceptError → FileRefusal
section_refusal (section_errors.Wrong fault) = by.Section fault
section_refusal section_errors.Memory = by.Memory

abbrev pub plain_refusal : CheckError → FileRefusal
plain_refusal (plain_errors.No lemma node reason) = by.Node lemma node reason
plain_refusal (plain_errors.NoGap gap fault) = by.Gap gap fault
plain_refusal plain_errors.Memory = by.Memory

abbrev pub lemma_refusal : LemmaFault → FileRefusal
lemma_refusal (lemma_errors.Refused r) = by.Lemma r
lemma_refusal lemma_errors.Memory = by.Memory

abbrev pub claim_refusal : ClaimsError → FileRefusal
claim_refusal (claim_errors.Refused r) = by.Claim r
claim_refusal claim_errors.Memory = by.Memory

-- a section is accepted, its copies have different names, and it spells this program, which is valid
pub record IsSpelledBy (p : Program) (s : Section) (spelled_program : Program) : Type 0 where
  pub names : HasDistinctNames s
  pub accepted : IsAccepted p s
  pub program : spelled_program ≡ spelled p (section_of s)
  pub valid : IsValid spelled_program

-- a section is refused for the names of its copies, or else for its first fault; want of memory says nothing
abbrev pub RefusesSection : Program → Section → FileRefusal → Type 0
RefusesSection p s by.Names = ¬ (HasDistinctNames s)
RefusesSection p s (by.Section fault) = HasDistinctNames s × IsFirstFault p s (section_views.fault_of fault)
RefusesSection p s (by.Node lemma node reason) = ⊥
RefusesSection p s (by.Gap gap fault) = ⊥
RefusesSection p s (by.Lemma r) = ⊥
RefusesSection p s (by.Claim r) = ⊥
RefusesSection p s by.Memory = ⊤

-- the plain part of a file is accepted for a program, and no lemma about potentials is refused behind it
pub record AcceptsLemmas (q : Program) (f : ProofFile) (lemmas : List SignedLemma) : Type 0 where
  pub plain : AcceptsFileFor q f
  pub signed : first_refusal (ground_of q expands_to_squares) (plain_signed q f) 1 lemmas ≡ None

-- the lemmas of a file are accepted, and these are the facts that they state
pub record StatesFacts (q : Program) (f : ProofFile) (lemmas : List SignedLemma) (facts : List SignedFact) : Type 0
  where
    pub accepted : AcceptsLemmas q f lemmas
    pub stated : facts ≡ all_signed q f lemmas

-- the plain part of a file is accepted, and this is the first lemma about potentials that isn't, with its first reason
pub record RefusesSigned (q : Program) (f : ProofFile) (lemmas : List SignedLemma) (r : Refusal) : Type 0 where
  pub plain : AcceptsFileFor q f
  pub first : first_refusal (ground_of q expands_to_squares) (plain_signed q f) 1 lemmas ≡ Some r

-- the lemmas of a file are refused: at the first node, or else at the first gap, of its plain part that isn't accepted,
-- or else at the first lemma about potentials; want of memory says nothing
abbrev pub RefusesLemmas : Program → ProofFile → List SignedLemma → FileRefusal → Type 0
RefusesLemmas q f lemmas by.Names = ⊥
RefusesLemmas q f lemmas (by.Section fault) = ⊥
RefusesLemmas q f lemmas (by.Node lemma node reason) =
    IsRefusedAt (setting_of q) f.lemmas lemma node (reason_of reason)
RefusesLemmas q f lemmas (by.Gap gap fault) = IsRefusedAtGap (setting_of q) (forms_at q) f gap (fault_of fault)
RefusesLemmas q f lemmas (by.Lemma r) = RefusesSigned q f lemmas (refusal_of r)
RefusesLemmas q f lemmas (by.Claim r) = ⊥
RefusesLemmas q f lemmas by.Memory = ⊤
