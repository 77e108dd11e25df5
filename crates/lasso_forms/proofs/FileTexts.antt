-- The form of a lasso file by its number, and that bytes are the text of one lasso file or have one first fault.
use Rattle.std.proofs.Common.{◌≡◌, if◌then◌else◌, ◌&&◌, Bool, true, false, ℕ, ◌≤◌, List, length, refl, sym, ◌∙◌, ap, subst, arith}
use Rattle.std.proofs.lemmas.Bool.{false≢true}
use Rattle.std.proofs.lemmas.Bool.Decides.{nat_tests}
use Rattle.std.specs.Prelude.{nat_lt, IfSome}
use Rattle.its_model.specs.model.Programs.{Program}
use Rattle.text_grammar.specs.text_core.Readers.{Fault}
use Rattle.text_grammar.specs.text_core.Reading.{Answer, Parsed, Answers}
use Rattle.text_grammar.specs.Texts.{reader}
use Rattle.text_grammar.specs.ByteTexts.{tokens}
use Rattle.text_grammar.proofs.text_core.FirstFaults.{answer_is, one_first_each}
use Rattle.text_grammar.proofs.ReaderLaws.{reader_laws}
use Rattle.run_replay.specs.declared.error.RunTextError.{RunTextError}
use Rattle.run_replay.specs.declared.kind.RunKind.{RunKind}
use Rattle.run_replay.specs.Views.{refusal_in}
use Rattle.lasso_check.specs.Lassos.{Lasso}
use Rattle.lasso_check.specs.Spelled.{text_of, IsWithin, IsTextWithin}
use Rattle.lasso_check.specs.Texts.{lassos_of}
use Rattle.lasso_check.proofs.LassoParts.{lassos_lawful}
use Rattle.lasso_check.proofs.LassoText.{written_parsed}
use Rattle.moving_check.specs.Texts.{exchanged, is_moving_form, moving_text, IsMovingText}
use Rattle.moving_check.proofs.Forms.{text_of_moving}
use Rattle.lasso_forms.specs.Files.{LassoFile, FirstForm, SecondForm, lasso_in}
use Rattle.lasso_forms.specs.Laws.{FilesAreDecided}
use Rattle.lasso_forms.specs.Texts.{in_first_form, IsFileText, IsFirstFaultOfForm, IsFirstFault}

-- a text in the first form hasn't the number of the second one
first_number : (l : Lasso) → is_moving_form (text_of l) ≡ false
first_number l = go (nat_lt 11 (length (text_of l)))
  where
    go : (b : Bool) → (b && false) ≡ false
    go true = refl
    go false = refl

-- a text in the second form has the number of the second form
second_number : (l : Lasso) → is_moving_form (moving_text l) ≡ true
second_number l = ap (λ (b : Bool). b && true) (long (length (moving_text l)) (omega arith))
  where
    long : (n : ℕ) → 12 ≤ n → nat_lt 11 n ≡ true
    long n h = grind (arith, nat_tests)

pub is_first : (p : Program) (bytes : List ℕ) (l : Lasso) → IsTextWithin p bytes l → is_moving_form bytes ≡ false
is_first p bytes l h = ap is_moving_form (sym h.text) ∙ first_number l

pub is_second : (p : Program) (bytes : List ℕ) (l : Lasso) → IsMovingText p bytes l → is_moving_form bytes ≡ true
is_second p bytes l h = ap is_moving_form (sym h.text) ∙ second_number l

-- a lasso file whose text hasn't the number of the second form is of the first form
pub first_only : (p : Program) (bytes : List ℕ) → is_moving_form bytes ≡ false → (Q : LassoFile → Type 0)
    → ((l : Lasso) → IsTextWithin p bytes l → Q (FirstForm l)) → (f : LassoFile) → IsFileText p bytes f → Q f
first_only p bytes other Q give (FirstForm l) h = give l h
first_only p bytes other Q give (SecondForm l) h = absurd (false≢true (sym other ∙ is_second p bytes l h))

-- a lasso file whose text has the number of the second form is of the second form
pub second_only : (p : Program) (bytes : List ℕ) → is_moving_form bytes ≡ true → (Q : LassoFile → Type 0)
    → ((l : Lasso) → IsMovingText p bytes l → Q (SecondForm l)) → (f : LassoFile) → IsFileText p bytes f → Q f
second_only p bytes same Q give (FirstForm l) h = absurd (false≢true (sym (is_first p bytes l h) ∙ same))
second_only p bytes same Q give (SecondForm l) h = give l h

-- a text without the number of the second form is left as it is
in_first : (bytes : List ℕ) → is_moving_form bytes ≡ false → in_first_form bytes ≡ bytes
in_first bytes other = ap (λ (b : Bool). if b then exchanged bytes else bytes) other

in_second : (bytes : List ℕ) → is_moving_form bytes ≡ true → in_first_form bytes ≡ exchanged bytes
in_second bytes same = ap (λ (b : Bool). if b then exchanged bytes else bytes) same

-- the first fault of the text read in the first form is that of the lasso file
pub fault_of_first : (p : Program) (bytes : List ℕ) (e : RunTextError) → is_moving_form bytes ≡ false
    → IfSome (refusal_in e) (IsFirstFaultOfForm p bytes) → IfSome (refusal_in e) (IsFirstFault p bytes)
fault_of_first p bytes e other h =
    subst (λ (bs : List ℕ). IfSome (refusal_in e) (IsFirstFaultOfForm p bs)) (sym (in_first bytes other)) h

pub fault_of_second : (p : Program) (bytes : List ℕ) (e : RunTextError) → is_moving_form bytes ≡ true
    → IfSome (refusal_in e) (IsFirstFaultOfForm p (exchanged bytes)) → IfSome (refusal_in e) (IsFirstFault p bytes)
fault_of_second p bytes e same h =
    subst (λ (bs : List ℕ). IfSome (refusal_in e) (IsFirstFaultOfForm p bs)) (sym (in_second bytes same)) h

-- the text of a lasso file, put into the first form, is the text of its lasso in that form
text_in_first : (p : Program) (bytes : List ℕ) (f : LassoFile) → IsFileText p bytes f
    → IsTextWithin p (in_first_form bytes) (lasso_in f)
text_in_first p bytes (FirstForm l) h =
    subst (λ (bs : List ℕ). IsTextWithin p bs l) (sym (in_first bytes (is_first p bytes l h))) h
text_in_first p bytes (SecondForm l) h =
    subst (λ (bs : List ℕ). IsTextWithin p bs l) (sym (in_second bytes (is_second p bytes l h)))
    (text_of_moving p bytes l h)

-- the text of a lasso file, put into the first form, is one of its lasso within the limits
pub text_within : (p : Program) (bytes : List ℕ) (f : LassoFile) → IsFileText p bytes f → IsWithin p (lasso_in f)
text_within p bytes (FirstForm l) h = h.within
text_within p bytes (SecondForm l) h = h.within

-- equal answers have equal lassos
stands-unique : (a b : Lasso) → ◌≡◌ {A = Answer Lasso RunKind} (Parsed a) (Parsed b) → a ≡ b
stands-unique a b e = cc

one_lasso : (p : Program) (bytes : List ℕ) (a b : Lasso) → IsTextWithin p bytes a → IsTextWithin p bytes b → a ≡ b
one_lasso p bytes a b h k = stands-unique a b (sym (written_parsed p bytes a h) ∙ written_parsed p bytes b k)

-- bytes are the text of one lasso file at most
one_file : (p : Program) (bytes : List ℕ) (f g : LassoFile) → IsFileText p bytes f → IsFileText p bytes g → f ≡ g
one_file p bytes (FirstForm a) g h k =
    first_only p bytes (is_first p bytes a h) (λ (x : LassoFile). FirstForm a ≡ x)
    (λ b k. ap (λ (l : Lasso). FirstForm l) (one_lasso p bytes a b h k)) g k
one_file p bytes (SecondForm a) g h k =
    second_only p bytes (is_second p bytes a h) (λ (x : LassoFile). SecondForm a ≡ x)
    (λ b k. ap (λ (l : Lasso). SecondForm l)
    (one_lasso p (exchanged bytes) a b (text_of_moving p bytes a h) (text_of_moving p bytes b k))) g k

-- the text of a lasso has no first fault
no_fault : (p : Program) (bytes : List ℕ) (l : Lasso) (x : Fault RunKind) → IsTextWithin p bytes l
    → ¬ (IsFirstFaultOfForm p bytes x)
no_fault p bytes l x h first =
    let r = reader (lassos_of p) in
    let right : Answers r (length bytes) (tokens bytes) (Parsed l) =
    subst (λ (a : Answer Lasso RunKind). Answers r (length bytes) (tokens bytes) a) (written_parsed p bytes l h)
    (answer_is r (reader_laws (lassos_of p) (lassos_lawful p)) (length bytes) (tokens bytes)) in
    right.faultless x first.is

pub files_decided : FilesAreDecided
files_decided = record {
  one = one_file;
  one_fault = λ p bytes x y h k.
      (one_first_each (reader (lassos_of p)) (reader_laws (lassos_of p) (lassos_lawful p))).each
      (length (in_first_form bytes)) (tokens (in_first_form bytes)) x y h k;
  apart = λ p bytes f x h k.
      no_fault p (in_first_form bytes) (lasso_in f) x (text_in_first p bytes f h) k;
}
