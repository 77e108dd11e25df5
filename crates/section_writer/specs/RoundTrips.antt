-- The texts of sections are read as these sections.
use Rattle.std.specs.Prelude.{◌≡◌, ℕ, ◌<◌, ◌^◌, List, length}
use Rattle.its_model.specs.Valid.{IsValid}
use Rattle.its_model.specs.model.Programs.{Program}
use Rattle.refined_programs.specs.Annotated.{Section}
use Rattle.text_grammar.specs.text_core.Reading.{Parsed, answer}
use Rattle.text_grammar.specs.Texts.{reader}
use Rattle.section_text.specs.Lexing.{tokens}
use Rattle.section_text.specs.Reading.{sections_of}
use Rattle.section_writer.specs.Limits.{IsSectionWithin}
use Rattle.section_writer.specs.Texts.{text_of}

-- reading bytes as a section of a program gives this section
abbrev pub IsReadAs : Program → List ℕ → Section → Type 0
IsReadAs p bytes s = answer (reader (sections_of p bytes)) (length bytes) (tokens bytes) ≡ Parsed s

-- of a valid program with fewer than 2^32 symbols, the text of each section within the limits is read as that section
pub record TextsAreReadBack : Type 0 where
  pub back : (p : Program) (s : Section) → IsValid p → length p.symbols < 2 ^ 32 → IsSectionWithin p s
      → IsReadAs p (text_of p s) s
