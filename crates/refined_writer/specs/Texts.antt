-- The text of a proof file of the third form.
use Rattle.std.specs.Prelude.{ℕ, List, [], ◌++◌, Option, Some, None, codes}
use Rattle.its_model.specs.model.Programs.{Program}
use Rattle.refined_programs.specs.Annotated.{Section}
use Rattle.section_writer.specs.Texts.{text_of as text_of_section}
use Rattle.cert_text.specs.Texts.{text_of as text_of_plain}
use Rattle.potential_writer.specs.Lemmas.{lemma_lines}
use Rattle.potential_writer.specs.Claims.{claim_lines}
use Rattle.refined_types.specs.refined_files.Files.{RefinedFile}

-- the text of a section, where there is one
abbrev pub section_part : Program → Option Section → List ℕ
section_part p None = []
section_part p (Some s) = text_of_section p s

-- the text of a file on a program, with the names of the spelled program in its lemmas: the first line, the section, the
-- plain part, the lemmas about potentials, and the claims
unfoldable pub refined_text : Program → Program → RefinedFile → List ℕ
refined_text p above f = codes "koat-proof 3\n" ++ (section_part p f.section ++ (text_of_plain above f.plain
    ++ (lemma_lines above f.signed ++ claim_lines f.claims)))
