use Rattle.std.proofs.Common.{refl}
use Rattle.cert_text.specs.Texts.{text_of}
use Rattle.cert_text.proofs.FileTexts.{text_stands}
use Rattle.cert_text.proofs.FilesBack.{answer_spelled}
use Rattle.cert_text.proofs.States.{sure_of}
use Rattle.cert_text.proofs.law.files_are_their_texts.Goals as goal

pub returns : goal.returns
returns c = record {
  text = λ p bytes f valid few h. answer_spelled p (sure_of p valid few) bytes f h;
  file = λ p bytes f valid few h. text_stands p (sure_of p valid few) bytes f h;
  again = λ p f valid few h. text_stands p (sure_of p valid few) (text_of p f) f (record { text = refl; within = h });
}
