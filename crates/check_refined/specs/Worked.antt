-- Answers on small files, worked out by hand.
use Rattle.std.specs.Prelude.{◌≡◌, ℕ, List, [], ◌∷◌, Option, Some, None}
use Rattle.model.specs.WorkedRuns.{countdown}
use Rattle.refined_programs.specs.Annotated.{Copy, Section}
use Rattle.refinement_check.specs.declared.fault.SectionFault as faults
use Rattle.refinement_check.specs.declared.fault.SectionFault.TheVariants as fault
use Rattle.cert_types.specs.declared.answer.Reason as node_reasons
use Rattle.cert_types.specs.declared.answer.Reason.TheVariants as node_reason
use Rattle.cert_types.specs.declared.answer.GapFault as gap_faults
use Rattle.cert_types.specs.cert_rules.Gaps.{ProofFile}
use Rattle.cert_types.specs.cert_program.Worked.{three_rules}
use Rattle.signed_bounds.specs.Bounds.{Constant}
use Rattle.potential_nodes.specs.Combinations.{Least}
use Rattle.potential_nodes.specs.SignedNodes.{SignedLemma, Combined}
use Rattle.potential_types.specs.declared.reason.Reason.TheVariants as lemma_reason
use Rattle.check_file.specs.WorkedFiles.{off_lemma}
use Rattle.check_potentials.specs.declared.lemmas.Refusal as lemma_refusals
use Rattle.program_claims.specs.Claims.{Claim, ByOne, OnTime, Stated}
use Rattle.claims_check.specs.declared.reason.RefusedClaim as claim_refusals
use Rattle.claims_check.specs.declared.reason.ClaimReason.TheVariants as claim_reason
use Rattle.refined_files.specs.Files.{RefinedFile}
use Rattle.check_refined.specs.Files.{IsAcceptedWith, RefusesFile}
use Rattle.check_refined.specs.declared.refusal.FileRefusal.TheVariants as by

-- a file of these parts
abbrev pub file_with : Option Section → ProofFile → List SignedLemma → List Claim → RefinedFile
file_with section plain signed claims = record { section = section; plain = plain; signed = signed; claims = claims }

-- a plain part without lemmas and gaps
abbrev pub nothing : ProofFile
nothing = record { lemmas = []; gaps = [] }

-- a section with these copies and without branches, and a copy of a symbol with the name `a`
abbrev pub copying : List Copy → Section
copying copies = record { copies = copies; branches = [] }

abbrev pub copy_a : ℕ → Copy
copy_a over = record { name = 97 ∷ []; over = over; facts = [] }

-- a lemma that cites two facts, and a claim on rule 1 that cites one
abbrev pub lesser : SignedLemma
lesser = record { node = Combined (Least 1 2); bound = Constant 0 }

abbrev pub once : Claim
once = OnTime 1 (ByOne 1)

-- Files with empty parts; with only a claim; with a lemma that cites facts that don't exist, and a claim; with a plain
-- part whose second lemma is refused; with a section without copies; and with one whose copies have the same name.
abbrev pub empty_file : RefinedFile
empty_file = file_with None nothing [] []

abbrev pub claiming : RefinedFile
claiming = file_with None nothing [] (once ∷ [])

abbrev pub citing : RefinedFile
citing = file_with None nothing (lesser ∷ []) (once ∷ [])

abbrev pub off_plain : RefinedFile
off_plain = file_with None off_lemma (lesser ∷ []) (once ∷ [])

abbrev pub no_copy : RefinedFile
no_copy = file_with (Some (copying [])) nothing (lesser ∷ []) (once ∷ [])

abbrev pub alike : RefinedFile
alike = file_with (Some (copying (copy_a 1 ∷ copy_a 0 ∷ []))) nothing [] []

-- a refused lemma about potentials, and a refused claim
abbrev pub first_lemma : lemma_refusals.Refusal
first_lemma = record { number = 1; reason = lemma_reason.BadShape }

abbrev pub first_claim : claim_refusals.RefusedClaim
first_claim = record { claim = 1; reason = claim_reason.BadLemma }

abbrev pub second_claim : claim_refusals.RefusedClaim
second_claim = record { claim = 2; reason = claim_reason.BadLemma }

-- The empty file is accepted, states nothing and no more, and isn't refused. The file that only claims is refused at
-- its first claim, at no other and in no other part. A refused lemma comes before the claims, a refused node of the
-- plain part before the lemmas about potentials, a fault of the section before these, and names before that fault.
pub record FilesAreAnswered : Type 0 where
  pub empty : IsAcceptedWith countdown empty_file []
  pub empty_states_nothing : (s : Stated) → ¬ (IsAcceptedWith countdown empty_file (s ∷ []))
  pub empty_not_refused : (r : claim_refusals.RefusedClaim) → ¬ (RefusesFile countdown empty_file (by.Claim r))
  pub claim_refused : RefusesFile countdown claiming (by.Claim first_claim)
  pub other_claim : ¬ (RefusesFile countdown claiming (by.Claim second_claim))
  pub claim_not_lemma : (r : lemma_refusals.Refusal) → ¬ (RefusesFile countdown claiming (by.Lemma r))
  pub claim_not_names : ¬ (RefusesFile countdown claiming by.Names)
  pub claim_not_section : (f : faults.SectionFault) → ¬ (RefusesFile countdown claiming (by.Section f))
  pub claim_not_accepted : (stated : List Stated) → ¬ (IsAcceptedWith countdown claiming stated)
  pub lemma_refused : RefusesFile countdown citing (by.Lemma first_lemma)
  pub lemma_first : (r : claim_refusals.RefusedClaim) → ¬ (RefusesFile countdown citing (by.Claim r))
  pub node_refused : RefusesFile three_rules off_plain (by.Node 2 1 node_reason.Shape)
  pub node_first : (r : lemma_refusals.Refusal) → ¬ (RefusesFile three_rules off_plain (by.Lemma r))
  pub section_refused : RefusesFile countdown no_copy (by.Section fault.Start)
  pub section_first : (r : lemma_refusals.Refusal) → ¬ (RefusesFile countdown no_copy (by.Lemma r))
  pub section_not_names : ¬ (RefusesFile countdown no_copy by.Names)
  pub names_refused : RefusesFile countdown alike by.Names
  pub names_first : (f : faults.SectionFault) → ¬ (RefusesFile countdown alike (by.Section f))
