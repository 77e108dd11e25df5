-- The texts of refusals of files of the third form.
use Rattle.std.specs.Prelude.{◌≡◌, List, ℕ, [], Option, Some, None}
use Rattle.model.specs.Programs.{Program}
use Rattle.refined_programs.specs.Annotated.{Section}
use Rattle.section_checks.specs.Faults.{Fault}
use Rattle.refinement_check.specs.Views as sections
use Rattle.cert_types.specs.AnswerViews.{reason_of, fault_of}
use Rattle.potential_types.specs.Views as lemmas
use Rattle.claims_check.specs.Views as claims
use Rattle.refined_files.specs.Files.{RefinedFile, program_above}
use Rattle.refined_text.specs.Outcomes.{SectionRefusal, BadNames, FirstFault}
use Rattle.check_refined.specs.declared.refusal.FileRefusal.{FileRefusal}
use Rattle.check_refined.specs.declared.refusal.FileRefusal.TheVariants as by
use Rattle.check_text.specs.Texts as plain
use Rattle.claims_text.specs.Sections.{bad_names_text, fault_text}
use Rattle.claims_text.specs.Lemmas.{refused_lemma_text, refused_claim_text}

-- why a section isn't accepted: its names, or its first fault
abbrev pub section_refusal_text : Section → SectionRefusal → List ℕ
section_refusal_text s BadNames = bad_names_text
section_refusal_text s (FirstFault fault) = fault_text s fault

-- a fault of the section of a file, if there is a section
abbrev pub fault_text_in : Option Section → Fault → List ℕ
fault_text_in None fault = []
fault_text_in (Some s) fault = fault_text s fault

-- The text says why a file isn't accepted: the names of its copies, or a fault of its section; a node or a gap of its
-- plain part, with the names of the symbols of the program above; a lemma about potentials; or a claim. Want of memory
-- has no text.
abbrev pub StatesRefusal : Program → RefinedFile → FileRefusal → List ℕ → Type 0
StatesRefusal p f by.Names text = text ≡ bad_names_text
StatesRefusal p f (by.Section fault) text = text ≡ fault_text_in f.section (sections.fault_of fault)
StatesRefusal p f (by.Node lemma node reason) text = text ≡ plain.refused_node_text lemma node (reason_of reason)
StatesRefusal p f (by.Gap gap fault) text = text ≡ plain.refused_gap_text (program_above p f.section) gap (fault_of fault)
StatesRefusal p f (by.Lemma r) text = text ≡ refused_lemma_text r.number (lemmas.reason_of r.reason)
StatesRefusal p f (by.Claim r) text = text ≡ refused_claim_text r.claim (claims.reason_of r.reason)
StatesRefusal p f by.Memory text = ⊥
