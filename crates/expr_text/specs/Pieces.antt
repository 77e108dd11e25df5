-- The pieces that expressions and guards are written in.
use Rattle.std.specs.Prelude.{ℕ, List}
use Rattle.its_model.specs.model.Programs.{Name}

-- a relation as it is written: equality has two signs
pub data Sign : Type 0 where
  AtLeastSign : Sign
  MoreThanSign : Sign
  AtMostSign : Sign
  LessThanSign : Sign
  EqualSign : Sign
  DoubleEqualSign : Sign

-- `&&` or `/\`
pub data Joint : Type 0 where
  Ampersands : Joint
  Wedge : Joint

-- a piece: a name, a row of digits, a bracket, an operator, a relation, or a conjunction sign
pub data Piece : Type 0 where
  Word : Name → Piece
  Digits : List ℕ → Piece
  Open : Piece
  Close : Piece
  Plus : Piece
  Minus : Piece
  Times : Piece
  Caret : Piece
  Related : Sign → Piece
  Joining : Joint → Piece
