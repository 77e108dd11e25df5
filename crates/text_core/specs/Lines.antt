-- A small language that embeds another one, for worked values of inner readers: lines, each a row of numbers and a
-- semicolon, as in `1, 23;4;`.
use Rattle.std.specs.Prelude.{◌≡◌, ℕ, if◌then◌else◌, ◌==◌, Option, Some, None, List, [], ◌∷◌, ◌++◌, map}
use Rattle.text_core.specs.Tokens.{Token, Lexeme}
use Rattle.text_core.specs.Readers.{Fault, Reader}
use Rattle.text_core.specs.Inner.{Inside, step_inside, inner_tokens, inner_end}
use Rattle.text_core.specs.Rows as row

-- a piece of a row, or a semicolon
pub data Piece : Type 0 where
  In : row.Piece → Piece
  Semicolon : Piece

-- the lines read before, the last one first, and the parser state within a row
pub data ParserState : Type 0 where
  InLine : List row.Row → row.ParserState → ParserState

-- the pieces of lines, and then the rest
abbrev pub lines_then : List row.Row → List Piece → List Piece
lines_then [] rest = rest
lines_then (r ∷ earlier) rest = lines_then earlier (map In (row.row_then r []) ++ Semicolon ∷ rest)

-- the lines are written as these pieces
abbrev pub Writes : List row.Row → List Piece → Type 0
Writes lines ps = lines_then lines [] ≡ ps

-- which pieces are those of a row
abbrev pub inner_of : Piece → Option row.Piece
inner_of (In p) = Some p
inner_of Semicolon = None

-- after a row comes a semicolon, and then the next row begins or the text ends
abbrev pub behind : List row.Row → row.Row → Piece → Option ParserState
behind earlier r Semicolon = Some (InLine (r ∷ earlier) row.Begins)
behind earlier r (In p) = None

-- how rows are embedded in lines
abbrev pub row_inside : Inside row.Piece row.Row row.ParserState Piece ParserState (List row.Row)
row_inside = record { into = In; inner_of = inner_of; inside = InLine; behind = behind }

-- the parser state after a piece
abbrev pub step : ParserState → Piece → Option ParserState
step (InLine earlier f) q = step_inside row.rows row_inside earlier f q

-- the lines of a text that ends here
abbrev pub finish : ParserState → Option (List row.Row)
finish (InLine earlier row.Begins) = Some earlier
finish (InLine earlier f) = None

-- a fault of a row is a fault of its line
abbrev pub shown : ℕ → List (Token Piece) → ParserState → List (Token Piece) → List (Fault row.Kind)
shown n done (InLine earlier f) rest =
    row.shown (inner_end row.rows row_inside n rest) (inner_tokens row.rows row_inside done) f
    (inner_tokens row.rows row_inside rest)

-- the reader of lines
abbrev pub lines : Reader Piece (List row.Row) ParserState row.Kind
lines =
    record {
      Writes = Writes;
      beginning = InLine [] row.Begins;
      step = step;
      finish = finish;
      number = row.number_of;
      shown = shown;
      stop_kind = λ f rest. row.Syntax;
    }

-- the outer piece of an optional piece of a row
abbrev pub as_inner : Option row.Piece → Option Piece
as_inner None = None
as_inner (Some p) = Some (In p)

abbrev pub lexeme_at : ℕ → List ℕ → Lexeme (Option Piece)
lexeme_at b bytes =
    if b == 59 then record { piece = Some Semicolon; len = 1 }
    else record { piece = as_inner (row.lexeme_at b bytes).piece; len = (row.lexeme_at b bytes).len }
