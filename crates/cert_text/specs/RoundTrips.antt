-- Proof files and their texts determine each other.
use Rattle.std.specs.Prelude.{◌≡◌, ℕ, ◌<◌, ◌^◌, List, length}
use Rattle.its_model.specs.Valid.{IsValid}
use Rattle.its_model.specs.model.Programs.{Program}
use Rattle.cert_types.specs.cert_rules.Gaps.{ProofFile}
use Rattle.text_grammar.specs.text_core.Reading.{Parsed, answer}
use Rattle.text_grammar.specs.Texts.{reader}
use Rattle.cert_lexer.specs.Lexing.{tokens}
use Rattle.cert_text.specs.Reading.{proofs_of}
use Rattle.cert_text.specs.Spelled.{IsFileWithin, IsTextWithin}
use Rattle.cert_text.specs.Texts.{text_of}

-- reading bytes as a proof file of a program gives this file
abbrev pub IsReadAs : Program → List ℕ → ProofFile → Type 0
IsReadAs p bytes f = answer (reader (proofs_of p)) (length bytes) (tokens p bytes) ≡ Parsed f

-- for a valid program with fewer than 2^32 symbols, bytes are read as a file exactly if they are the text of that file
-- and it is within the limits, and the text of each file within the limits is read as that file
pub record FilesAreTheirTexts : Type 0 where
  pub text : (p : Program) (bytes : List ℕ) (f : ProofFile) → IsValid p → length p.symbols < 2 ^ 32
      → IsReadAs p bytes f → IsTextWithin p bytes f
  pub file : (p : Program) (bytes : List ℕ) (f : ProofFile) → IsValid p → length p.symbols < 2 ^ 32
      → IsTextWithin p bytes f → IsReadAs p bytes f
  pub again : (p : Program) (f : ProofFile) → IsValid p → length p.symbols < 2 ^ 32 → IsFileWithin p f
      → IsReadAs p (text_of p f) f
