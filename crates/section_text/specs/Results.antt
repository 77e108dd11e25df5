-- When the result of reading a section is right.
use Rattle.std.specs.Prelude.{ℕ, List, length, Result, Ok, Err, IfSome}
use Rattle.its_model.specs.model.Programs.{Program}
use Rattle.text_grammar.specs.text_core.Faults.{IsFirst}
use Rattle.text_grammar.specs.text_core.Reading.{IsTree}
use Rattle.text_grammar.specs.Texts.{reader}
use Rattle.refined_programs.specs.declared.section.Section.{Section}
use Rattle.refined_programs.specs.Views.{annotated_of}
use Rattle.section_text.specs.declared.error.SectionTextError.{SectionTextError}
use Rattle.section_text.specs.Lexing.{tokens}
use Rattle.section_text.specs.Reading.{sections_of}
use Rattle.section_text.specs.Refusals.{refusal_in}

-- the result is the section, if the text spells it, has no fault and spells no other section; or else exactly the first
-- fault, unless memory ran out
abbrev pub Answers : Program → List ℕ → Result Section SectionTextError → Type 0
Answers q bytes (Ok section) =
    IsTree (reader (sections_of q bytes)) (length bytes) (tokens bytes) (annotated_of section)
Answers q bytes (Err error) =
    IfSome (refusal_in error) (IsFirst (reader (sections_of q bytes)) (length bytes) (tokens bytes))
