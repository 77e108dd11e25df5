-- A small language, for worked values of faults: numbers with commas between them, as in `1, 23`.
use Rattle.std.specs.Prelude.{◌≡◌, ℕ, ◌+◌, ◌-◌, if◌then◌else◌, nat_lt, ◌==◌, Option, Some, None, List, [], ◌∷◌, length}
use Rattle.std.specs.Char.{is_ascii_digit}
use Rattle.std.specs.Str.Parse.{digits_value}
use Rattle.text_core.specs.Prefixes.{prefix}
use Rattle.text_core.specs.Bytes.{is_white_space}
use Rattle.text_core.specs.Tokens.{Token, Lexeme}
use Rattle.text_core.specs.Readers.{Fault, Reader}

-- a number, a comma, or a byte that occurs in no text
pub data Piece : Type 0 where
  Number : ℕ → Piece
  Comma : Piece
  Wrong : Piece

-- one number, or a row and one more number
pub data Row : Type 0 where
  One : ℕ → Row
  More : Row → ℕ → Row

-- nothing has been read, or a row, or a row and a comma
pub data ParserState : Type 0 where
  Begins : ParserState
  Behind : Row → ParserState
  Open : Row → ParserState

-- the kinds of refusals: the text is no row; a number over 9; more than three numbers
pub data Kind : Type 0 where
  Syntax : Kind
  TooLarge : Kind
  TooMany : Kind

-- The number of a kind of refusal.
abbrev pub number_of : Kind → ℕ
number_of Syntax = 1
number_of TooLarge = 2
number_of TooMany = 3

-- the pieces of a row, and then the rest
abbrev pub row_then : Row → List Piece → List Piece
row_then (One n) rest = Number n ∷ rest
row_then (More row n) rest = row_then row (Comma ∷ Number n ∷ rest)

-- the row is written as these pieces
abbrev pub Writes : Row → List Piece → Type 0
Writes row ps = row_then row [] ≡ ps

-- the parser state after a piece
abbrev pub step : ParserState → Piece → Option ParserState
step Begins (Number n) = Some (Behind (One n))
step (Behind row) Comma = Some (Open row)
step (Open row) (Number n) = Some (Behind (More row n))
step f p = None

-- the row of a text that ends here
abbrev pub finish : ParserState → Option Row
finish (Behind row) = Some row
finish f = None

-- how many numbers a row has
abbrev pub count : Row → ℕ
count (One n) = 1
count (More row n) = count row + 1

-- a number over 9 as the next piece is a fault at its first byte
abbrev pub large_at : Piece → ℕ → List (Fault Kind)
large_at (Number n) at = if nat_lt 9 n then record { kind = TooLarge; at = at } ∷ [] else []
large_at p at = []

abbrev pub large_next : List (Token Piece) → List (Fault Kind)
large_next [] = []
large_next (t ∷ rest) = large_at t.piece t.at

-- a row of more than three numbers shows a fault at the last byte of its last piece, when the text ends
abbrev pub many_behind : List (Token Piece) → ParserState → List (Token Piece) → List (Fault Kind)
many_behind (t ∷ done) (Behind row) [] =
    if nat_lt 3 (count row) then record { kind = TooMany; at = t.upto - 1 } ∷ [] else []
many_behind done f rest = []

-- the faults that a state shows: a large number that could follow, or too many numbers
abbrev pub shown : ℕ → List (Token Piece) → ParserState → List (Token Piece) → List (Fault Kind)
shown n done (Behind row) rest = many_behind done (Behind row) rest
shown n done f rest = large_next rest

-- the reader of rows
abbrev pub rows : Reader Piece Row ParserState Kind
rows =
    record {
      Writes = Writes;
      beginning = Begins;
      step = step;
      finish = finish;
      number = number_of;
      shown = shown;
      stop_kind = λ f rest. Syntax;
    }

-- the piece that begins with a byte; white space may separate pieces
abbrev pub lexeme_at : ℕ → List ℕ → Lexeme (Option Piece)
lexeme_at b bytes =
    if is_white_space b then record { piece = None; len = 1 }
    else if is_ascii_digit b then record {
      piece =
          Some (Number (digits_value 10 (b ∷ prefix is_ascii_digit bytes)));
      len = length (b ∷ prefix is_ascii_digit bytes);
    }
    else if b == 44 then record { piece = Some Comma; len = 1 }
    else record { piece = Some Wrong; len = 1 }
