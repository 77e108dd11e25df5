-- The texts of small files.
use Rattle.std.proofs.Common.{refl}
use Rattle.std.specs.Fmt.{digits}
use Rattle.section_writer.specs.Texts.{text_of as text_of_section}
use Rattle.cert_text.specs.Texts.{text_of as text_of_plain}
use Rattle.potential_writer.specs.Parts.{certificate_text, form_text, poly_text}
use Rattle.potential_writer.specs.Lemmas.{functions_text, table_text}
use Rattle.potential_writer.specs.Claims.{side_text}
use Rattle.refined_writer.specs.Texts.{refined_text}
use Rattle.refined_writer.specs.Worked.{WorkedTexts}

pub worked_texts : WorkedTexts
unfolding refined_text text_of_section text_of_plain digits poly_text form_text certificate_text functions_text table_text side_text
worked_texts = record {
  nothing = λ p above. refl;
  section = λ above. refl;
  lemmas = λ p. refl;
  claims = λ p above. refl;
}
