-- Bytes are the text of at most one linear program within the limits, or have at most one first fault, but not both.
use Rattle.std.proofs.Common.{◌≡◌, ℕ, List, length, subst, sym, ◌∙◌}
use Rattle.text_grammar.specs.text_core.Readers.{Fault}
use Rattle.text_grammar.specs.text_core.Reading.{Answer, Parsed, Answers}
use Rattle.text_grammar.specs.Texts.{reader}
use Rattle.text_grammar.specs.ByteTexts.{tokens}
use Rattle.text_grammar.proofs.text_core.FirstFaults.{answer_is, one_first_each}
use Rattle.text_grammar.proofs.ReaderLaws.{reader_laws}
use Rattle.lp_text.specs.declared.kind.LpKind.{LpKind}
use Rattle.lp_text.specs.Lps.{Lp}
use Rattle.lp_text.specs.Texts.{lps}
use Rattle.lp_text.specs.Spelled.{IsTextWithin}
use Rattle.lp_text.specs.Decided.{IsFirstFault, TextsAreDecided}
use Rattle.lp_text.proofs.LpParts.{lps_lawful}
use Rattle.lp_text.proofs.LpTexts.{written_parsed}

-- linear programs in the same answer are equal
stands-unique : (p q : Lp) → ◌≡◌ {A = Answer Lp LpKind} (Parsed p) (Parsed q) → p ≡ q
stands-unique p q e = cc

-- the text of a linear program has no first fault
no_fault : (bytes : List ℕ) (p : Lp) (x : Fault LpKind) → IsTextWithin bytes p → ¬ IsFirstFault bytes x
no_fault bytes p x h first =
    let right : Answers (reader lps) (length bytes) (tokens bytes) (Parsed p) =
    subst (λ (a : Answer Lp LpKind). Answers (reader lps) (length bytes) (tokens bytes) a) (written_parsed bytes p h)
    (answer_is (reader lps) (reader_laws lps lps_lawful) (length bytes) (tokens bytes)) in
    right.faultless x first.is

pub texts_decided : TextsAreDecided
texts_decided = record {
  one = λ bytes p q h k. stands-unique p q (sym (written_parsed bytes p h) ∙ written_parsed bytes q k);
  one_fault = λ bytes x y h k.
      (one_first_each (reader lps) (reader_laws lps lps_lawful)).each (length bytes) (tokens bytes) x y h k;
  apart = no_fault;
}
