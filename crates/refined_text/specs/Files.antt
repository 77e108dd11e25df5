-- The outcome of reading a file of the third form.
use Rattle.std.specs.Prelude.{◌≡◌, ℕ, ◌<◌, List, Option}
use Rattle.its_model.specs.model.Programs.{Program}
use Rattle.refined_programs.specs.Annotated.{Section}
use Rattle.refined_files.specs.Files.{RefinedFile, program_above}
use Rattle.cert_types.specs.cert_rules.Gaps.{ProofFile}
use Rattle.potential_types.specs.potential_nodes.SignedNodes.{SignedLemma}
use Rattle.cert_text.specs.cert_lexer.declared.kind.ProofKind.TheVariants.{Syntax}
use Rattle.proof_parts.specs.Head.{agreeing, first_line, first_line_len}
use Rattle.proof_parts.specs.Parts.{Parts, IsCut}
use Rattle.refined_text.specs.Outcomes.{AtText, Outcome, Gives, Refuses, IsJust, Then, TextReads}
use Rattle.refined_text.specs.Parts.{plain_text, lemma_text, claim_text, SectionReads}

-- a file is cut into its parts; or its first line isn't that of a file of the third form, and differs first at this
-- byte
abbrev pub CutReads : List ℕ → Outcome Parts → Type 0
CutReads bytes (Gives parts) = IsCut bytes parts
CutReads bytes (Refuses r) =
    (agreeing bytes first_line < first_line_len)
    × (r ≡ AtText (record { kind = Syntax; at = agreeing bytes first_line }))

-- the outcome of reading the claims, the last part
abbrev pub ClaimsRead : Parts → Option Section → ProofFile → List SignedLemma → Outcome RefinedFile → Type 0
ClaimsRead parts s plain signed =
    Then (TextReads (claim_text parts))
    (λ claims. IsJust (record { section = s; plain = plain; signed = signed; claims = claims }))

-- the outcome of reading the lemmas about potentials, over the spelled program, and then the claims
abbrev pub LemmasRead : Program → Parts → Option Section → ProofFile → Outcome RefinedFile → Type 0
LemmasRead q parts s plain = Then (TextReads (lemma_text q parts)) (ClaimsRead parts s plain)

-- the outcome of reading the plain part, over the spelled program, and then the lemmas and the claims
abbrev pub LinesRead : Program → Parts → Option Section → Outcome RefinedFile → Type 0
LinesRead q parts s = Then (TextReads (plain_text q parts)) (LemmasRead q parts s)

-- the outcome of reading all parts: first the section, which has to be accepted, and then the others, over the program
-- that it spells, or over the program itself if there is no section
abbrev pub PartsRead : Program → Parts → Outcome RefinedFile → Type 0
PartsRead p parts = Then (SectionReads p parts.section) (λ s. LinesRead (program_above p s) parts s)

-- the outcome of reading a file of the third form
abbrev pub FileReads : Program → List ℕ → Outcome RefinedFile → Type 0
FileReads p bytes = Then (CutReads bytes) (PartsRead p)
