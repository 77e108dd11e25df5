-- The parts of a file as texts, and what its section is.
use Rattle.std.specs.Prelude.{◌≡◌, ℕ, ◌+◌, List, [], ◌∷◌, length, Option, Some, None}
use Rattle.its_model.specs.model.Programs.{Program}
use Rattle.refined_programs.specs.Annotated.{Section}
use Rattle.section_checks.specs.Faults.{IsFirstFault}
use Rattle.section_checks.specs.Laws.{HasDistinctNames}
use Rattle.refined_files.specs.Files.{IsSectionAccepted}
use Rattle.cert_types.specs.cert_rules.Gaps.{ProofFile}
use Rattle.cert_text.specs.cert_lexer.declared.kind.ProofKind.{ProofKind}
use Rattle.cert_text.specs.cert_lexer.declared.piece.Piece as plain_piece
use Rattle.cert_text.specs.cert_lexer.Lexing as plain_lexing
use Rattle.cert_text.specs.Reading.{proofs_of}
use Rattle.section_text.specs.declared.kind.SectionKind.{SectionKind}
use Rattle.section_text.specs.declared.piece.Piece as section_piece
use Rattle.section_text.specs.Lexing as section_lexing
use Rattle.section_text.specs.Reading.{sections_of}
use Rattle.potential_types.specs.potential_nodes.SignedNodes.{SignedLemma}
use Rattle.claim_types.specs.program_claims.Claims.{Claim}
use Rattle.potential_text.specs.declared.kind.LineKind.{LineKind}
use Rattle.potential_text.specs.declared.piece.Piece as line_piece
use Rattle.potential_text.specs.Lexing as line_lexing
use Rattle.potential_text.specs.Reading.{lemma_texts, claim_texts}
use Rattle.potential_text.specs.SymbolNames.{symbol_names}
use Rattle.proof_parts.specs.Head.{first_line_len}
use Rattle.proof_parts.specs.Parts.{Parts}
use Rattle.refined_text.specs.Kinds.{kind_of_section, kind_of_line, same_kind}
use Rattle.refined_text.specs.Outcomes.{SectionRefusal, BadNames, FirstFault, Refusal, AtText, AtSection, Outcome}
use Rattle.refined_text.specs.Outcomes.{Gives}
use Rattle.refined_text.specs.Outcomes.{Refuses, IsJust, Then, PartText, TextReads}

-- where the parts of a file begin: the section after the first line, and each other part where the one before it ends
abbrev pub section_at : ℕ
section_at = first_line_len

abbrev pub plain_at : Parts → ℕ
plain_at parts = section_at + length parts.section

abbrev pub lemmas_at : Parts → ℕ
lemmas_at parts = plain_at parts + length parts.plain

abbrev pub claims_at : Parts → ℕ
claims_at parts = lemmas_at parts + length parts.signed

-- the bytes of a section, over a program
abbrev pub section_text : Program → List ℕ → PartText section_piece.Piece Section SectionKind
section_text p bytes = record {
  grammar = sections_of p bytes;
  size = length bytes;
  tokens = section_lexing.tokens bytes;
  kind_of = kind_of_section;
  begins = section_at;
}

-- the plain part, over the spelled program
abbrev pub plain_text : Program → Parts → PartText plain_piece.Piece ProofFile ProofKind
plain_text q parts = record {
  grammar = proofs_of q;
  size = length parts.plain;
  tokens = plain_lexing.tokens q parts.plain;
  kind_of = same_kind;
  begins = plain_at parts;
}

-- the lemmas about potentials, over the spelled program
abbrev pub lemma_text : Program → Parts → PartText line_piece.Piece (List SignedLemma) LineKind
lemma_text q parts = record {
  grammar = lemma_texts (symbol_names q) parts.signed;
  size = length parts.signed;
  tokens = line_lexing.tokens parts.signed;
  kind_of = kind_of_line;
  begins = lemmas_at parts;
}

-- the claims
abbrev pub claim_text : Parts → PartText line_piece.Piece (List Claim) LineKind
claim_text parts = record {
  grammar = claim_texts parts.claims;
  size = length parts.claims;
  tokens = line_lexing.tokens parts.claims;
  kind_of = kind_of_line;
  begins = claims_at parts;
}

-- a section isn't accepted for this reason: the names of its copies come first, and then the first fault of its checks
abbrev pub IsFirstRefusal : Program → Section → SectionRefusal → Type 0
IsFirstRefusal p s BadNames = ¬ (HasDistinctNames s)
IsFirstRefusal p s (FirstFault fault) = HasDistinctNames s × IsFirstFault p s fault

-- the outcome for a section: it is the file's section, if it is accepted; else the file is refused for it
abbrev pub Accepts : Program → Section → Outcome (Option Section) → Type 0
Accepts p s (Gives found) = (found ≡ Some s) × IsSectionAccepted p (Some s)
Accepts p s (Refuses (AtText x)) = ⊥
Accepts p s (Refuses (AtSection t r)) = (t ≡ s) × IsFirstRefusal p s r

-- the section of a file by the bytes of its part: none if there are no bytes; else the section that they spell, if it
-- is accepted
abbrev pub SectionReads : Program → List ℕ → Outcome (Option Section) → Type 0
SectionReads p [] = IsJust None
SectionReads p (b ∷ bytes) = Then (TextReads (section_text p (b ∷ bytes))) (Accepts p)
