-- What was appended to a text by the functions that print.
use Rattle.std.specs.Prelude.{◌≡◌, ℕ, ◌<◌, List, ◌++◌, ⊤}
use Rattle.text_core.specs.model.Programs.{Name}
use Rattle.text_core.specs.model.Bounds.{Bound, Parts, Part}
use Rattle.bound_text.specs.Pieces as plain
use Rattle.bound_text.specs.Pieces.{bytes_of}
use Rattle.bound_text.specs.Writing as writing
use Rattle.bound_text.specs.Writing.{plus_between, comma_between, factors_then}
use Rattle.bound_text.specs.declared.piece.Piece.{Piece}
use Rattle.bound_text.specs.declared.piece.Piece.TheVariants as pieces
use Rattle.bound_text.specs.declared.printing.Join.{Join}
use Rattle.bound_text.specs.declared.printing.Join.TheVariants as joins
use Rattle.bound_text.specs.declared.printing.Before.{Before}
use Rattle.bound_text.specs.declared.printing.Before.TheVariants as befores

-- a piece of the code as plain data
abbrev pub piece_of : Piece → plain.Piece
piece_of (pieces.Variable i) = plain.Variable i
piece_of (pieces.Number n) = plain.Number n
piece_of pieces.Maximum = plain.Maximum
piece_of pieces.Open = plain.Open
piece_of pieces.Close = plain.Close
piece_of pieces.Times = plain.Times
piece_of pieces.Caret = plain.Caret
piece_of pieces.Plus = plain.Plus
piece_of pieces.Blank = plain.Blank
piece_of pieces.Comma = plain.Comma
piece_of pieces.Wrong = plain.Wrong

-- a variable is one of the first n
abbrev pub IsListed : ℕ → Piece → Type 0
IsListed n (pieces.Variable i) = i < n
IsListed n _ = ⊤

-- the pieces of a separator
abbrev pub separator_of : Join → List plain.Piece
separator_of joins.Plus = plus_between
separator_of joins.Comma = comma_between

-- the part before a factor, as plain data
abbrev pub before_of : Before → writing.Before
before_of befores.Nothing = writing.Nothing
before_of (befores.Run i n) = writing.Run i n
before_of befores.Other = writing.Other

-- the run is of one of the first n variables
abbrev pub IsListedRun : ℕ → Before → Type 0
IsListedRun n (befores.Run i k) = i < n
IsListedRun n _ = ⊤

-- bytes were appended to `old`, which made it `new`; with the pieces of `left` after them they are the pieces of `text`
pub record Writes (names : List Name) (old new : List ℕ)
    (text left : List plain.Piece → List plain.Piece) : Type 0 where
  pub each : (rest : List plain.Piece) → new ++ bytes_of names (left rest) ≡ old ++ bytes_of names (text rest)

-- the whole text was appended to the old bytes
abbrev pub WritesAll : List Name → List ℕ → List ℕ → (List plain.Piece → List plain.Piece) → Type 0
WritesAll names old new text = Writes names old new text (λ rest. rest)

-- a factor was appended after what comes before it, except for the run that it ends with
pub record WritesFactor (names : List Name) (old new : List ℕ) (before behind : writing.Before)
    (b : Bound) : Type 0 where
  pub each : (bs : Parts) (rest : List plain.Piece)
      → new ++ bytes_of names (factors_then behind bs rest)
      ≡ old ++ bytes_of names (factors_then before (Part b bs) rest)
