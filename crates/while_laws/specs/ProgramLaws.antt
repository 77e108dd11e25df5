-- While programs are read as they are written.
use Rattle.std.specs.Prelude.{◌≡◌, ℕ, ◌<◌, List, [], ◌∷◌, length, ⊤, Some}
use Rattle.text_core.specs.Faults.{Among}
use Rattle.text_core.specs.Readers.{Fault, onto, reached}
use Rattle.text_core.specs.Reading.{IsTree}
use Rattle.text_core.specs.Tokens.{Token, pieces}
use Rattle.text_grammar.specs.Texts.{ParserState, reader}
use Rattle.while_text.specs.while_model.Statements.{size}
use Rattle.while_text.specs.declared.kind.Kind.{Kind}
use Rattle.while_text.specs.declared.piece.Piece.{Piece}
use Rattle.while_text.specs.Lexing.{tokens}
use Rattle.while_text.specs.Reading.{Source, while_text}
use Rattle.while_laws.specs.Laws.{IsDerived}
use Rattle.while_laws.specs.SpelledPrograms.{SpellProgram}

-- The nonterminal of the grammar for programs.
abbrev pub program_symbol : ℕ
program_symbol = 0

-- The token lists that are derived as a program are exactly those that spell one.
pub record ProgramsAreDerived : Type 0 where
  pub spelled : (text : List ℕ) (ps : List Piece) → IsDerived program_symbol ps
      → (source : Source) × SpellProgram text source ps
  pub derived : (text : List ℕ) (source : Source) (ps : List Piece) → SpellProgram text source ps
      → IsDerived program_symbol ps

-- A text is accepted, and this is the program that it denotes.
abbrev pub IsTextOf : List ℕ → Source → Type 0
IsTextOf text source = IsTree (reader (while_text text)) (length text) (tokens text) source

-- No token of a text has a fault: its names are inputs, and nothing passes a limit.
abbrev pub HasNoFault : List ℕ → Type 0
HasNoFault text =
    (done rest : List (Token Piece)) (f : ParserState Piece) → onto done rest ≡ tokens text
    → reached (reader (while_text text)) (pieces done) ≡ Some f → (x : Fault Kind)
    → ¬ Among x ((reader (while_text text)).shown (length text) done f rest)

-- An accepted text spells its program; a text that spells a program is accepted as that program unless a token has a
-- fault; so it spells one program alone.
pub record ProgramsAreRead : Type 0 where
  pub spelled : (text : List ℕ) (source : Source) → IsTextOf text source
      → SpellProgram text source (pieces (tokens text))
  pub accepted : (text : List ℕ) (source : Source) → SpellProgram text source (pieces (tokens text))
      → HasNoFault text → IsTextOf text source
  pub one : (text : List ℕ) (a b : Source) → SpellProgram text a (pieces (tokens text))
      → SpellProgram text b (pieces (tokens text)) → HasNoFault text → a ≡ b

-- The numbers ascend strictly.
abbrev pub AreAscending : List ℕ → Type 0
AreAscending [] = ⊤
AreAscending (m ∷ []) = ⊤
AreAscending (m ∷ n ∷ rest) = (m < n) × AreAscending (n ∷ rest)

-- An accepted program has one position for each statement, in the order of the text.
pub record PositionsAreOfStatements : Type 0 where
  pub one_each : (text : List ℕ) (source : Source) → IsTextOf text source → length source.at ≡ size source.program
  pub in_order : (text : List ℕ) (source : Source) → IsTextOf text source → AreAscending source.at
