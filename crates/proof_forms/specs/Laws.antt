-- The texts of proof files are decided.
use Rattle.std.specs.Prelude.{◌≡◌, ℕ, ◌<◌, ◌^◌, List, length}
use Rattle.its_model.specs.model.Programs.{Program}
use Rattle.its_model.specs.Valid.{IsValid}
use Rattle.text_grammar.specs.text_core.Readers.{Fault}
use Rattle.cert_text.specs.cert_lexer.declared.kind.ProofKind.{ProofKind}
use Rattle.proof_forms.specs.Texts.{ProofText, StandsFor, IsFirstRefusal}

-- for a valid program with fewer than 2^32 symbols bytes have at most one meaning, at most one first refusal, and not
-- both
pub record ProofTextsAreDecided : Type 0 where
  pub one : (p : Program) (bytes : List ℕ) (a b : ProofText) → IsValid p → length p.symbols < 2 ^ 32
      → StandsFor p bytes a → StandsFor p bytes b → a ≡ b
  pub one_refusal : (p : Program) (bytes : List ℕ) (x y : Fault ProofKind) → IsFirstRefusal p bytes x
      → IsFirstRefusal p bytes y → x ≡ y
  pub apart : (p : Program) (bytes : List ℕ) (a : ProofText) (x : Fault ProofKind) → IsValid p
      → length p.symbols < 2 ^ 32 → StandsFor p bytes a → ¬ (IsFirstRefusal p bytes x)
