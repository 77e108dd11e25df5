-- The tokens of a program's text.
use Rattle.std.specs.Prelude.{ℕ, List}
use Rattle.expr_text.specs.model.Programs.{Name}
use Rattle.expr_text.specs.Pieces as inner

-- A token: one of an expression or a guard, a sign of its own (`-{` and `}>` enclose a cost), the contents of a comment
-- with its closing bracket, bytes that begin no token, or a byte over 127.
pub data Piece : Type 0 where
  In : inner.Piece → Piece
  Comma : Piece
  Arrow : Piece
  CostOpen : Piece
  CostClose : Piece
  GuardMark : Piece
  SquareOpen : Piece
  SquareClose : Piece
  Disjoining : Piece
  Remark : List ℕ → Piece
  Wrong : Piece
  Strange : Piece

-- The tokens of a name, of a row of digits, and of the round brackets.
abbrev pub word : Name → Piece
word name = In (inner.Word name)

abbrev pub digits : List ℕ → Piece
digits ds = In (inner.Digits ds)

abbrev pub open_bracket : Piece
open_bracket = In inner.Open

abbrev pub close_bracket : Piece
close_bracket = In inner.Close
