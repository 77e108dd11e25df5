-- Bytes have at most one meaning as a proof file, or at most one first refusal, and not both.
use Rattle.std.proofs.Common.{◌≡◌, ◌<◌, ◌^◌, ◌∙◌, ℕ, true, false, List, length, ap, sym, subst, inl, inr}
use Rattle.std.proofs.lemmas.Bool.{false≢true}
use Rattle.its_model.specs.model.Programs.{Program}
use Rattle.its_model.specs.Valid.{IsValid}
use Rattle.refined_programs.specs.Annotated.{Section}
use Rattle.refined_files.specs.Files.{RefinedFile}
use Rattle.text_grammar.specs.text_core.Reading.{Answer, Parsed, Answers}
use Rattle.text_grammar.specs.text_core.Readers.{Fault}
use Rattle.text_grammar.specs.Texts.{reader}
use Rattle.text_grammar.proofs.text_core.FirstFaults.{answer_is, one_first_each}
use Rattle.text_grammar.proofs.ReaderLaws.{reader_laws}
use Rattle.cert_types.specs.cert_rules.Gaps.{ProofFile}
use Rattle.cert_text.specs.cert_lexer.declared.kind.ProofKind.{ProofKind}
use Rattle.cert_text.specs.cert_lexer.Lexing.{tokens}
use Rattle.cert_text.specs.Reading.{proofs_of}
use Rattle.cert_text.specs.Spelled.{IsTextWithin}
use Rattle.cert_text.proofs.FileTexts.{text_stands}
use Rattle.cert_text.proofs.Lawful.{lawful}
use Rattle.cert_text.proofs.States.{sure_of}
use Rattle.proof_parts.specs.Head.{begins_third_form}
use Rattle.refined_text.specs.Outcomes.{SectionRefusal, Refusal, AtText, AtSection, Outcome, Gives, Refuses}
use Rattle.refined_text.specs.Laws.{RefinedTextsAreDecided}
use Rattle.proof_forms.specs.Texts.{ProofText, Plain, Refined, NotRefined, StandsFor, IsFirstOfPlain, IsFirstRefusal}
use Rattle.proof_forms.specs.Laws.{ProofTextsAreDecided}

-- a text isn't both of the third form and of none
apart : {G : Type 0} (bytes : List ℕ) → begins_third_form bytes ≡ false → begins_third_form bytes ≡ true → G
apart bytes e f = absurd (false≢true (sym e ∙ f))

-- outcomes of reading files of the third form that are the same, and that aren't
same_file : (f g : RefinedFile) → ◌≡◌ {A = Outcome RefinedFile} (Gives f) (Gives g) → f ≡ g
same_file f g e = cc

same_refusal : (x y : Fault ProofKind) → ◌≡◌ {A = Outcome RefinedFile} (Refuses (AtText x)) (Refuses (AtText y)) → x ≡ y
same_refusal x y e = cc

same_section : (s t : Section) (r q : SectionRefusal)
    → ◌≡◌ {A = Outcome RefinedFile} (Refuses (AtSection s r)) (Refuses (AtSection t q)) → NotRefined s r ≡ NotRefined t q
same_section s t r q e = cc

file_or_refusal : (f : RefinedFile) (r : Refusal) → ◌≡◌ {A = Outcome RefinedFile} (Gives f) (Refuses r) → ⊥
file_or_refusal f r e = cc

section_or_text : (s : Section) (r : SectionRefusal) (x : Fault ProofKind)
    → ◌≡◌ {A = Outcome RefinedFile} (Refuses (AtSection s r)) (Refuses (AtText x)) → ⊥
section_or_text s r x e = cc

-- the file of an answer is one
same_answer : (f g : ProofFile) → ◌≡◌ {A = Answer ProofFile ProofKind} (Parsed f) (Parsed g) → f ≡ g
same_answer f g e = cc

module _ (laws : RefinedTextsAreDecided) (p : Program) (bytes : List ℕ) where
  -- a text of the first or the second form is that of one file
  plain-one : IsValid p → length p.symbols < 2 ^ 32 → (f g : ProofFile) → IsTextWithin p bytes f
      → IsTextWithin p bytes g → f ≡ g
  plain-one valid few f g h k =
      let sure = sure_of p valid few in
      same_answer f g (sym (text_stands p sure bytes f h) ∙ text_stands p sure bytes g k)

  -- and has no first refusal
  plain_faultless : IsValid p → length p.symbols < 2 ^ 32 → (f : ProofFile) → IsTextWithin p bytes f
      → (x : Fault ProofKind) → IsFirstOfPlain p bytes x → ⊥
  plain_faultless valid few f h x first =
      let tree = subst (λ (a : Answer ProofFile ProofKind). Answers (reader (proofs_of p)) (length bytes) (tokens p bytes) a)
      (text_stands p (sure_of p valid few) bytes f h)
      (answer_is (reader (proofs_of p)) (reader_laws (proofs_of p) (lawful p)) (length bytes) (tokens p bytes)) in
      tree.faultless x first.is

  stands-one : IsValid p → length p.symbols < 2 ^ 32 → (a b : ProofText) → StandsFor p bytes a → StandsFor p bytes b
      → a ≡ b
  stands-one valid few (Plain f) (Plain g) h k = ap Plain (plain-one valid few f g h.1 k.1)
  stands-one valid few (Plain f) (Refined g) h k = apart bytes h.0 k.0
  stands-one valid few (Plain f) (NotRefined t q) h k = apart bytes h.0 k.0
  stands-one valid few (Refined f) (Plain g) h k = apart bytes k.0 h.0
  stands-one valid few (Refined f) (Refined g) h k =
      ap Refined (same_file f g (laws.one p bytes (Gives f) (Gives g) h.1 k.1))
  stands-one valid few (Refined f) (NotRefined t q) h k =
      absurd (file_or_refusal f (AtSection t q) (laws.one p bytes (Gives f) (Refuses (AtSection t q)) h.1 k.1))
  stands-one valid few (NotRefined s r) (Plain g) h k = apart bytes k.0 h.0
  stands-one valid few (NotRefined s r) (Refined g) h k =
      absurd (file_or_refusal g (AtSection s r) (laws.one p bytes (Gives g) (Refuses (AtSection s r)) k.1 h.1))
  stands-one valid few (NotRefined s r) (NotRefined t q) h k =
      same_section s t r q (laws.one p bytes (Refuses (AtSection s r)) (Refuses (AtSection t q)) h.1 k.1)

  refusal-one : (x y : Fault ProofKind) → IsFirstRefusal p bytes x → IsFirstRefusal p bytes y → x ≡ y
  refusal-one x y (inl h) (inl k) =
      (one_first_each (reader (proofs_of p)) (reader_laws (proofs_of p) (lawful p))).each (length bytes) (tokens p bytes)
      x y h.1 k.1
  refusal-one x y (inl h) (inr k) = apart bytes h.0 k.0
  refusal-one x y (inr h) (inl k) = apart bytes k.0 h.0
  refusal-one x y (inr h) (inr k) =
      same_refusal x y (laws.one p bytes (Refuses (AtText x)) (Refuses (AtText y)) h.1 k.1)

  not_both : IsValid p → length p.symbols < 2 ^ 32 → (a : ProofText) (x : Fault ProofKind) → StandsFor p bytes a
      → IsFirstRefusal p bytes x → ⊥
  not_both valid few (Plain f) x h (inl k) = plain_faultless valid few f h.1 x k.1
  not_both valid few (Plain f) x h (inr k) = apart bytes h.0 k.0
  not_both valid few (Refined f) x h (inl k) = apart bytes k.0 h.0
  not_both valid few (Refined f) x h (inr k) =
      file_or_refusal f (AtText x) (laws.one p bytes (Gives f) (Refuses (AtText x)) h.1 k.1)
  not_both valid few (NotRefined s r) x h (inl k) = apart bytes k.0 h.0
  not_both valid few (NotRefined s r) x h (inr k) =
      section_or_text s r x (laws.one p bytes (Refuses (AtSection s r)) (Refuses (AtText x)) h.1 k.1)

pub decided : RefinedTextsAreDecided → ProofTextsAreDecided
decided laws = record {
  one = λ p bytes a b valid few. stands-one laws p bytes valid few a b;
  one_refusal = λ p bytes x y. refusal-one laws p bytes x y;
  apart = λ p bytes a x valid few. not_both laws p bytes valid few a x;
}
