-- The pieces of a bound's text, and their bytes.
use Rattle.std.specs.Prelude.{ℕ, List, [], ◌∷◌, ◌++◌, slice_index_or, codes}
use Rattle.std.specs.Fmt.{decimal}
use Rattle.text_core.specs.model.Programs.{Name}

-- a piece: a variable by its number, a number, `max(`, a mark, or what is no piece of a text
pub data Piece : Type 0 where
  Variable : ℕ → Piece
  Number : ℕ → Piece
  Maximum : Piece
  Open : Piece
  Close : Piece
  Times : Piece
  Caret : Piece
  Plus : Piece
  Blank : Piece
  Comma : Piece
  Wrong : Piece

-- the bytes of a piece: a variable is its name, and a number is decimal without leading zeros
abbrev pub spelled : List Name → Piece → List ℕ
spelled names (Variable i) = slice_index_or names i []
spelled names (Number n) = decimal n
spelled names Maximum = codes "max("
spelled names Open = 40 ∷ []
spelled names Close = 41 ∷ []
spelled names Times = 42 ∷ []
spelled names Caret = 94 ∷ []
spelled names Plus = 43 ∷ []
spelled names Blank = 32 ∷ []
spelled names Comma = 44 ∷ []
spelled names Wrong = []

-- the bytes of pieces, one after the other
abbrev pub bytes_of : List Name → List Piece → List ℕ
bytes_of names [] = []
bytes_of names (piece ∷ pieces) = spelled names piece ++ bytes_of names pieces
