-- The meaning of the text of a proof file, and its first refusal.
use Rattle.std.specs.Prelude.{◌≡◌, ◌⊎◌, ℕ, true, false, List, length}
use Rattle.its_model.specs.model.Programs.{Program}
use Rattle.refined_programs.specs.Annotated.{Section}
use Rattle.refined_files.specs.Files.{RefinedFile}
use Rattle.text_grammar.specs.text_core.Faults.{IsFirst}
use Rattle.text_grammar.specs.text_core.Readers.{Fault}
use Rattle.text_grammar.specs.Texts.{reader}
use Rattle.cert_types.specs.cert_rules.Gaps.{ProofFile}
use Rattle.cert_text.specs.cert_lexer.declared.kind.ProofKind.{ProofKind}
use Rattle.cert_text.specs.cert_lexer.Lexing.{tokens}
use Rattle.cert_text.specs.Reading.{proofs_of}
use Rattle.cert_text.specs.Spelled.{IsTextWithin}
use Rattle.proof_parts.specs.Head.{begins_third_form}
use Rattle.refined_text.specs.Outcomes.{SectionRefusal, AtText, AtSection, Gives, Refuses}
use Rattle.refined_text.specs.Files.{FileReads}

-- the meaning of a text: a file of the first or the second form; one of the third form; or one of the third form with a
-- section that isn't accepted, and why
pub data ProofText : Type 0 where
  Plain : ProofFile → ProofText
  Refined : RefinedFile → ProofText
  NotRefined : Section → SectionRefusal → ProofText

-- bytes have this meaning: they begin as the third form does, or don't, and accordingly reading them as a file of the
-- third form has this result, or they are the text of such a plain file within the limits
abbrev pub StandsFor : Program → List ℕ → ProofText → Type 0
StandsFor p bytes (Plain f) = (begins_third_form bytes ≡ false) × IsTextWithin p bytes f
StandsFor p bytes (Refined f) = (begins_third_form bytes ≡ true) × FileReads p bytes (Gives f)
StandsFor p bytes (NotRefined s r) = (begins_third_form bytes ≡ true) × FileReads p bytes (Refuses (AtSection s r))

-- the first refusal of bytes as a text of the first or the second form
abbrev pub IsFirstOfPlain : Program → List ℕ → Fault ProofKind → Type 0
IsFirstOfPlain p bytes x = IsFirst (reader (proofs_of p)) (length bytes) (tokens p bytes) x

-- the first refusal of bytes, of the form that they begin with
abbrev pub IsFirstRefusal : Program → List ℕ → Fault ProofKind → Type 0
IsFirstRefusal p bytes x =
    ((begins_third_form bytes ≡ false) × IsFirstOfPlain p bytes x)
    ⊎ ((begins_third_form bytes ≡ true) × FileReads p bytes (Refuses (AtText x)))
