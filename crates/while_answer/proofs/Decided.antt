-- Texts of while programs are decided: bytes either are the text of one program or have one first fault.
use Rattle.std.proofs.Common.{length}
use Rattle.text_grammar.specs.Texts.{reader}
use Rattle.text_grammar.proofs.text_core.FirstFaults.{one_first_each}
use Rattle.text_grammar.proofs.ReaderLaws.{reader_laws}
use Rattle.while_text.specs.Lexing.{tokens}
use Rattle.while_text.specs.Reading.{while_text}
use Rattle.while_text.proofs.Lawful.{lawful}
use Rattle.while_answer.specs.Laws.{WhileTextsAreDecided}

pub while_texts_decided : WhileTextsAreDecided
while_texts_decided = record {
  one = λ bytes a b h k. k.spelled.only a h.spelled.written;
  one_fault = λ bytes.
      (one_first_each (reader (while_text bytes)) (reader_laws (while_text bytes) (lawful bytes))).each (length bytes)
      (tokens bytes);
  apart = λ bytes a x h fault. h.spelled.faultless x fault.is;
}
