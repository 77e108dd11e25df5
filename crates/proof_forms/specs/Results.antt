-- What results of reading a proof file say.
use Rattle.std.specs.Prelude.{List, ℕ, Result, Ok, Err, IfSome}
use Rattle.its_model.specs.model.Programs.{Program}
use Rattle.refined_programs.specs.Views.{annotated_of}
use Rattle.refined_files.specs.Files.{RefinedFile}
use Rattle.cert_types.specs.AnswerViews.{file_of}
use Rattle.cert_text.specs.declared.error.ProofTextError.{ProofTextError}
use Rattle.cert_text.specs.Spelled.{IsTextWithin}
use Rattle.cert_text.specs.StatedErrors.{refusal_in}
use Rattle.refined_types.specs.Views.{file_view}
use Rattle.refined_text.specs.Outcomes.{AtText, AtSection, Outcome, Gives, Refuses}
use Rattle.refined_text.specs.Results.{section_refusal}
use Rattle.proof_forms.specs.declared.text.ProofText as code
use Rattle.proof_forms.specs.declared.text.ProofText.TheVariants as texts
use Rattle.proof_forms.specs.Texts.{ProofText, Plain, Refined, NotRefined, StandsFor, IsFirstOfPlain, IsFirstRefusal}

-- the meaning of a text, as plain data
abbrev pub text_of : code.ProofText → ProofText
text_of (texts.Plain f) = Plain (file_of f)
text_of (texts.Refined f) = Refined (file_view f)
text_of (texts.NotRefined section refusal) = NotRefined (annotated_of section) (section_refusal refusal)

-- a result is the meaning of the bytes, or exactly their first refusal, or memory ran out
abbrev pub Answers : Program → List ℕ → Result code.ProofText ProofTextError → Type 0
Answers p bytes (Ok proof_text) = StandsFor p bytes (text_of proof_text)
Answers p bytes (Err error) = IfSome (refusal_in error) (IsFirstRefusal p bytes)

-- the bytes are the text of this file of the first or the second form
abbrev pub IsPlainText : Program → List ℕ → ProofText → Type 0
IsPlainText p bytes (Plain f) = IsTextWithin p bytes f
IsPlainText p bytes (Refined f) = ⊥
IsPlainText p bytes (NotRefined s r) = ⊥

-- a result is the file of the first or the second form of which the bytes are the text, or their first refusal
abbrev pub AnswersPlain : Program → List ℕ → Result code.ProofText ProofTextError → Type 0
AnswersPlain p bytes (Ok proof_text) = IsPlainText p bytes (text_of proof_text)
AnswersPlain p bytes (Err error) = IfSome (refusal_in error) (IsFirstOfPlain p bytes)

-- reading a file of the third form has this result
abbrev pub HasOutcome : (Outcome RefinedFile → Type 0) → ProofText → Type 0
HasOutcome Reads (Plain f) = ⊥
HasOutcome Reads (Refined f) = Reads (Gives f)
HasOutcome Reads (NotRefined s r) = Reads (Refuses (AtSection s r))

-- a result is the outcome of reading a file of the third form
abbrev pub AnswersOutcome : (Outcome RefinedFile → Type 0) → Result code.ProofText ProofTextError → Type 0
AnswersOutcome Reads (Ok proof_text) = HasOutcome Reads (text_of proof_text)
AnswersOutcome Reads (Err error) = IfSome (refusal_in error) (λ x. Reads (Refuses (AtText x)))
