-- Texts of a grammar are decided: bytes are the text of at most one subject, or have one first fault.
use Rattle.std.proofs.Common.{◌≡◌, ℕ, List, length, sym, ◌∙◌, subst}
use Rattle.text_grammar.specs.text_core.Faults.{IsFirst}
use Rattle.text_grammar.specs.text_core.Reading.{Answer, Parsed, Answers, answer}
use Rattle.text_grammar.specs.text_core.Readers.{Fault}
use Rattle.text_grammar.specs.text_core.Tokens.{Token}
use Rattle.text_grammar.specs.Texts.{Text, reader, IsLawful}
use Rattle.text_grammar.proofs.text_core.FirstFaults.{answer_is, one_first_each}
use Rattle.text_grammar.proofs.ReaderLaws.{reader_laws}
use Rattle.call_plans.specs.declared.status.Status.{Status}
use Rattle.call_plans.specs.Lawful.{IsDecided}
use Rattle.koat_cli.specs.Statements.{StatesOne}
use Rattle.koat_cli.proofs.Statements.{stated-unique}

-- the subject of an answer is unique
same_subject : {T K : Type 0} (a b : T) → ◌≡◌ {A = Answer T K} (Parsed a) (Parsed b) → a ≡ b
same_subject a b e = cc

-- the texts of a grammar, if each text of a subject within the limits is answered with it
module _ {P T K : Type 0} (x : Text P T K) (lawful : IsLawful x) (tokens : List ℕ → List (Token P))
    (IsText : List ℕ → T → Type 0)
    (answered : (bytes : List ℕ) (t : T) → IsText bytes t
    → answer (reader x) (length bytes) (tokens bytes) ≡ Parsed t) where
  -- a text of a subject has no first fault
  no_first_fault : (bytes : List ℕ) (t : T) → IsText bytes t
      → Answers (reader x) (length bytes) (tokens bytes) (Parsed t)
  no_first_fault bytes t h =
      subst (λ (a : Answer T K). Answers (reader x) (length bytes) (tokens bytes) a) (answered bytes t h)
      (answer_is (reader x) (reader_laws x lawful) (length bytes) (tokens bytes))

  -- the texts are decided
  pub texts_decided : (limit : ℕ) (refused : Status) (too_long : List ℕ) (words : Fault K → List ℕ)
      → IsDecided (record {
        limit = limit;
        refused = refused;
        too_long = too_long;
        StandsFor = IsText;
        IsRefusedAs = λ bytes text. StatesOne (IsFirst (reader x) (length bytes) (tokens bytes)) words text;
      })
  texts_decided limit refused too_long words = record {
    one = λ bytes a b h k. same_subject a b (sym (answered bytes a h) ∙ answered bytes b k);
    one_refusal = λ bytes.
        stated-unique (IsFirst (reader x) (length bytes) (tokens bytes)) words
        ((one_first_each (reader x) (reader_laws x lawful)).each (length bytes) (tokens bytes));
    apart = λ bytes t text stands refused. (no_first_fault bytes t stands).faultless refused.subject refused.is.is;
  }
