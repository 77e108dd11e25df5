-- Texts of while programs: the programs that bytes spell, and their first fault.
use Rattle.std.specs.Prelude.{ℕ, List, length}
use Rattle.text_grammar.specs.text_core.Readers.{Fault}
use Rattle.text_grammar.specs.text_core.Faults.{IsFirst}
use Rattle.text_grammar.specs.text_core.Reading.{IsTree}
use Rattle.text_grammar.specs.Texts.{reader}
use Rattle.while_text.specs.while_tree.Readable.{IsReadable}
use Rattle.while_text.specs.declared.kind.Kind.{Kind}
use Rattle.while_text.specs.Lexing.{tokens}
use Rattle.while_text.specs.Reading.{Source, while_text}

-- The program is within the limits.
abbrev pub IsWithin : Source → Type 0
IsWithin source = IsReadable source.names source.program

-- The bytes spell the program, none of their tokens has a fault, and the program is within the limits.
pub record IsTextWithin (bytes : List ℕ) (source : Source) : Type 0 where
  pub spelled : IsTree (reader (while_text bytes)) (length bytes) (tokens bytes) source
  pub within : IsWithin source

-- The first fault of the bytes as the text of a while program.
abbrev pub IsFirstFault : List ℕ → Fault Kind → Type 0
IsFirstFault bytes x = IsFirst (reader (while_text bytes)) (length bytes) (tokens bytes) x
