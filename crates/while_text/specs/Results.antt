-- What the result of reading a while program means.
use Rattle.std.specs.Prelude.{ℕ, List, length, Result, Ok, Err, IfSome}
use Rattle.text_grammar.specs.text_core.Faults.{IsFirst}
use Rattle.text_grammar.specs.text_core.Reading.{IsTree}
use Rattle.text_grammar.specs.Texts.{reader}
use Rattle.while_text.specs.while_tree.declared.stmt.Whole.{Whole}
use Rattle.while_text.specs.declared.error.WhileError.{WhileError}
use Rattle.while_text.specs.Lexing.{tokens}
use Rattle.while_text.specs.Reading.{while_text}
use Rattle.while_text.specs.Views.{source_of, refusal_in}

-- The program, if the text spells it, has no fault, and spells no other program; otherwise exactly the first fault of
-- the text, unless memory ran out.
abbrev pub Answers : List ℕ → Result Whole WhileError → Type 0
Answers bytes (Ok whole) = IsTree (reader (while_text bytes)) (length bytes) (tokens bytes) (source_of whole)
Answers bytes (Err error) = IfSome (refusal_in error) (IsFirst (reader (while_text bytes)) (length bytes) (tokens bytes))
