-- The operators of expressions.
use Rattle.std.specs.Prelude.{Bool, true, false}
use Rattle.expr_text.specs.Pieces.{Piece, Word, Digits, Open, Close, Plus, Minus, Times, Caret, Related, Joining}

-- `+`, `-`, `*` and `^`
abbrev pub is_operator : Piece → Bool
is_operator Plus = true
is_operator Minus = true
is_operator Times = true
is_operator Caret = true
is_operator (Word name) = false
is_operator (Digits digits) = false
is_operator Open = false
is_operator Close = false
is_operator (Related sign) = false
is_operator (Joining joint) = false
