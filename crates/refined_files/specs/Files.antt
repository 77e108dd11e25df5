-- Proof files of the third form, and when one is accepted for a program.
use Rattle.std.specs.Prelude.{◌≡◌, List, map, Option, Some, None, ⊤}
use Rattle.std.specs.List.{flat_map}
use Rattle.model.specs.Programs.{Program}
use Rattle.model.specs.Facts as plain_facts
use Rattle.signed_bounds.specs.Safe.{expands_to_squares}
use Rattle.refinement.specs.Sections.{spelled}
use Rattle.refined_programs.specs.Annotated.{Section, section_of}
use Rattle.section_checks.specs.Faults.{IsAccepted}
use Rattle.section_checks.specs.Laws.{HasDistinctNames}
use Rattle.cert_rules.specs.Gaps.{ProofFile}
use Rattle.cert_rules.specs.Acceptance.{facts_of_lemmas}
use Rattle.cert_program.specs.Setting.{setting_of}
use Rattle.cert_program.specs.Laws.{AcceptsFileFor}
use Rattle.potential_nodes.specs.Facts.{SignedFact}
use Rattle.potential_nodes.specs.PlainFacts.{signed_fact}
use Rattle.potential_nodes.specs.SignedNodes.{SignedLemma}
use Rattle.potential_nodes.specs.Acceptance.{facts_after, first_refusal}
use Rattle.potential_ground.specs.RowTerms.{ground_of}
use Rattle.program_claims.specs.Claims.{Claim, Stated}
use Rattle.program_claims.specs.Evidence.{Evidence, by_section, by_itself}
use Rattle.program_claims.specs.Acceptance.{first_refused, all_stated}

-- what a whole file says: a section, where there is one; a file of the first or second form; lemmas about potentials;
-- and claims
pub record RefinedFile : Type 0 where
  pub section : Option Section
  pub plain : ProofFile
  pub signed : List SignedLemma
  pub claims : List Claim

-- the program over whose rules the lemmas are: the one that the section spells, or the program itself
abbrev pub program_above : Program → Option Section → Program
program_above p None = p
program_above p (Some s) = spelled p (section_of s)

-- the section, where there is one, is accepted, and its copies have names that differ
abbrev pub IsSectionAccepted : Program → Option Section → Type 0
IsSectionAccepted p None = ⊤
IsSectionAccepted p (Some s) = HasDistinctNames s × IsAccepted p s

-- what the lemmas of a plain part state of a program, in order, over absolute start values
abbrev pub facts_stated : Program → ProofFile → List plain_facts.Fact
facts_stated q f = flat_map (λ facts. facts) (facts_of_lemmas (setting_of q) f.lemmas)

-- the same over start values themselves
abbrev pub plain_signed : Program → ProofFile → List SignedFact
plain_signed q f = map (signed_fact q) (facts_stated q f)

-- what all lemmas state, those about potentials behind those of the plain part
abbrev pub all_signed : Program → ProofFile → List SignedLemma → List SignedFact
all_signed q f lemmas = facts_after (plain_signed q f) lemmas

-- what claims on a program rest on, by its section and these facts
abbrev pub evidence_by : Program → Option Section → List SignedFact → Evidence
evidence_by p None facts = by_itself p facts
evidence_by p (Some s) facts = by_section p (section_of s) facts

-- what the claims of a file on a program rest on
abbrev pub evidence_in : Program → RefinedFile → Evidence
evidence_in p f = evidence_by p f.section (all_signed (program_above p f.section) f.plain f.signed)

-- A file is accepted for a program: its section is; its plain part is for the program that the section spells; no lemma
-- about potentials is refused behind the facts of the plain part, over the rows of that program; and no claim is
-- refused.
pub record IsAcceptedFor (p : Program) (f : RefinedFile) : Type 0 where
  pub section : IsSectionAccepted p f.section
  pub plain : AcceptsFileFor (program_above p f.section) f.plain
  pub signed : first_refusal (ground_of (program_above p f.section) expands_to_squares)
      (plain_signed (program_above p f.section) f.plain) 1 f.signed ≡ None
  pub claims : first_refused (evidence_in p f) 1 f.claims ≡ None

-- what the claims of a file state of a program
abbrev pub stated_in : Program → RefinedFile → List Stated
stated_in p f = all_stated (evidence_in p f) f.claims
