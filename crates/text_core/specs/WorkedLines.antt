-- Worked values of lines, which contain rows.
use Rattle.std.specs.Prelude.{ℕ, List, [], ◌∷◌, length, codes}
use Rattle.text_core.specs.Tokens.{Token, tokens_of}
use Rattle.text_core.specs.Faults.{FaultAt, IsFirst}
use Rattle.text_core.specs.Reading.{IsTree}
use Rattle.text_core.specs.Laws.{Laws, AnswersAll, OneTree, OneFirst}
use Rattle.text_core.specs.Rows.{One, More, Kind, Syntax, TooLarge, TooMany}
use Rattle.text_core.specs.Lines.{Piece, lines, lexeme_at}

-- the tokens of a text of lines
abbrev pub tokens : List ℕ → List (Token Piece)
tokens bytes = tokens_of lexeme_at bytes

-- a text of lines has this fault; it has this first fault
abbrev pub HasFault : List ℕ → Kind → ℕ → Type 0
HasFault bytes kind at = FaultAt lines (length bytes) (tokens bytes) (record { kind = kind; at = at })

abbrev pub HasFirst : List ℕ → Kind → ℕ → Type 0
HasFirst bytes kind at = IsFirst lines (length bytes) (tokens bytes) (record { kind = kind; at = at })

-- the faults of texts of lines
pub record LinesAreWorkedOut : Type 0 where
  -- `1, 2;3;` denotes two lines, and the empty text none
  pub two : IsTree lines 7 (tokens (codes "1, 2;3;")) (One 3 ∷ More (One 1) 2 ∷ [])
  pub nothing : IsTree lines 0 (tokens []) []
  -- a fault of the second row is reported at its own position in the text, although a later line is broken: `1;12;,`
  pub second_row : HasFirst (codes "1;12;,") TooLarge 2
  pub broken_later : HasFault (codes "1;12;,") Syntax 5
  -- a row with too many numbers has a fault at its last byte when its line ends, or the text: `1;1,2,3,4;` and
  -- `1;1,2,3,4`
  pub too_many : HasFirst (codes "1;1,2,3,4;") TooMany 8
  pub too_many_open : HasFirst (codes "1;1,2,3,4") TooMany 8
  -- the numbers of earlier rows don't count: `1,2;3,4;` hasn't too many
  pub each_alone : IsTree lines 8 (tokens (codes "1,2;3,4;")) (More (One 3) 4 ∷ More (One 1) 2 ∷ [])
  -- a text breaks off within a row at a piece that can't continue it, as in `1,,`, and at a semicolon after an
  -- incomplete row, as in `1,;` and `1;;`; without a last semicolon it ends too early, as in `1;2`
  pub within_row : HasFirst (codes "1;1,,") Syntax 4
  pub open_row : HasFirst (codes "1,;") Syntax 2
  pub no_row : HasFirst (codes "1;;") Syntax 2
  pub ends_early : HasFirst (codes "1;2") Syntax 3

-- the reader of lines satisfies the laws, because the reader of rows does
pub record LinesAreRead : Type 0 where
  pub laws : Laws lines
  pub answers : AnswersAll lines
  pub one_tree : OneTree lines
  pub one_first : OneFirst lines

pub record WorkedLines : Type 0 where
  pub worked : LinesAreWorkedOut
  pub read : LinesAreRead
