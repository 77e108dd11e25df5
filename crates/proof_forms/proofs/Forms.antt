-- Results of the forms as results of all, and forms of small texts.
use Rattle.std.proofs.Common.{◌≡◌, ℕ, true, false, List, Option, Some, None, refl, sym, inl, inr, lit<}
use Rattle.std.proofs.lemmas.Bool.{false≢true}
use Rattle.std.specs.Prelude.{Result, Ok, Err, IfSome}
use Rattle.its_model.specs.model.Programs.{Program}
use Rattle.text_grammar.specs.text_core.Readers.{Fault}
use Rattle.cert_text.specs.cert_lexer.declared.kind.ProofKind.{ProofKind}
use Rattle.cert_text.specs.declared.error.ProofTextError.{ProofTextError}
use Rattle.cert_text.specs.StatedErrors.{refusal_in}
use Rattle.proof_parts.specs.Head.{begins_third_form}
use Rattle.refined_text.specs.Files.{FileReads}
use Rattle.refined_text.specs.Outcomes.{AtText, Refuses}
use Rattle.proof_forms.specs.declared.text.ProofText as code
use Rattle.proof_forms.specs.declared.text.ProofText.TheVariants as texts
use Rattle.proof_forms.specs.Texts.{IsFirstOfPlain, IsFirstRefusal}
use Rattle.proof_forms.specs.Results.{Answers, AnswersPlain, AnswersOutcome}
use Rattle.proof_forms.specs.Worked.{FormsAreWorkedOut}

-- a result of reading bytes that aren't of the third form
pub plain-answers : (p : Program) (bytes : List ℕ) (result : Result code.ProofText ProofTextError)
    → begins_third_form bytes ≡ false → AnswersPlain p bytes result → Answers p bytes result
plain-answers p bytes (Ok (texts.Plain f)) e h = (e, h)
plain-answers p bytes (Ok (texts.Refined f)) e h = absurd h
plain-answers p bytes (Ok (texts.NotRefined s r)) e h = absurd h
plain-answers p bytes (Err error) e h = go (refusal_in error) h where
  go : (o : Option (Fault ProofKind)) → IfSome o (IsFirstOfPlain p bytes) → IfSome o (IsFirstRefusal p bytes)
  go None h = tt
  go (Some x) h = inl (e, h)

-- a result of reading bytes of the third form
pub outcome-answers : (p : Program) (bytes : List ℕ) (result : Result code.ProofText ProofTextError)
    → begins_third_form bytes ≡ true → AnswersOutcome (FileReads p bytes) result → Answers p bytes result
outcome-answers p bytes (Ok (texts.Plain f)) e h = absurd h
outcome-answers p bytes (Ok (texts.Refined f)) e h = (e, h)
outcome-answers p bytes (Ok (texts.NotRefined s r)) e h = (e, h)
outcome-answers p bytes (Err error) e h = go (refusal_in error) h where
  go : (o : Option (Fault ProofKind)) → IfSome o (λ x. FileReads p bytes (Refuses (AtText x)))
      → IfSome o (IsFirstRefusal p bytes)
  go None h = tt
  go (Some x) h = inr (e, h)

pub worked : FormsAreWorkedOut
worked = record {
  third = λ p f h. absurd (false≢true (sym h.0));
  first = λ p f h. absurd (false≢true h.0);
  thirty = λ p f h. absurd (false≢true h.0);
  blank = λ p. inr (refl, inl (lit< tt, refl));
}
