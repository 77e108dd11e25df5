-- The answer to a text: its program, or its first fault.
use Rattle.std.specs.Prelude.{ℕ, zero, suc, ◌+◌, List, [], ◌∷◌, length, Option, Some, None}
use Rattle.expr_text.specs.model.Programs.{Name, Program}
use Rattle.expr_text.specs.text_core.Tokens.{Token}
use Rattle.expr_text.specs.text_core.Reading.{Answer, Parsed, Refused, answer}
use Rattle.its_text.specs.Pieces.{Piece}
use Rattle.its_text.specs.Lexing.{tokens_of}
use Rattle.its_text.specs.Written.{WrittenRule, Section, Goal, Start, Variables, Rules, Comment, pieces_behind}
use Rattle.its_text.specs.Numbering.{start_of, rules_of, first_leaving, program_from}
use Rattle.its_text.specs.Grammar.{programs}
use Rattle.its_text.specs.Kinds.{Kind, MissingSection, StartUnknown}

-- The number of tokens before the start symbol in its section.
abbrev pub or_index : Option ℕ → ℕ → Section → Option ℕ
or_index found before (Start name) = Some (before + 4)
or_index found before Goal = found
or_index found before (Variables names) = found
or_index found before (Rules rules) = found
or_index found before (Comment bytes) = found

abbrev pub start_index : List Section → Option ℕ
start_index [] = None
start_index (s ∷ sections) = or_index (start_index sections) (length (pieces_behind sections)) s

-- The position of a token.
abbrev pub at_index : List (Token Piece) → ℕ → ℕ
at_index [] i = 0
at_index (t ∷ ts) zero = t.at
at_index (t ∷ ts) (suc i) = at_index ts i

abbrev pub at_maybe : List (Token Piece) → Option ℕ → ℕ
at_maybe ts None = 0
at_maybe ts (Some i) = at_index ts i

-- The program, or the fault at the start symbol if it is the source of no rule.
abbrev pub program_or : ℕ → Option Program → Answer Program Kind
program_or at None = Refused (record { kind = StartUnknown; at = at })
program_or at (Some p) = Parsed p

-- The verdict on a text of n bytes that has no other fault: a section is missing, or the start symbol is the source of
-- no rule, or it is a program.
abbrev pub whole : ℕ → List (Token Piece) → List Section → Option Name → Option (List WrittenRule) → Answer Program Kind
whole n ts sections (Some start) (Some rules) =
    program_or (at_maybe ts (start_index sections)) (program_from start rules (first_leaving start rules))
whole n ts sections _ _ = Refused (record { kind = MissingSection; at = n })

abbrev pub verdict_of_answer : ℕ → List (Token Piece) → Answer (List Section) Kind → Answer Program Kind
verdict_of_answer n ts (Refused x) = Refused x
verdict_of_answer n ts (Parsed sections) = whole n ts sections (start_of sections) (rules_of sections)

-- The verdict on bytes.
abbrev pub verdict : List ℕ → Answer Program Kind
verdict bytes = verdict_of_answer (length bytes) (tokens_of bytes) (answer programs (length bytes) (tokens_of bytes))
