-- Tests of pieces.
use Rattle.std.specs.Prelude.{Bool, true, false, Option, Some, None}
use Rattle.model.specs.Programs.{Name}
use Rattle.text_core.specs.Names.{is_same}
use Rattle.its_text.specs.expr_text.Pieces as inner
use Rattle.its_text.specs.Pieces.{Piece, In, Comma, Arrow, CostOpen, CostClose, GuardMark, SquareOpen, SquareClose}
use Rattle.its_text.specs.Pieces.{Remark}

-- a piece is an opening bracket
abbrev pub is_open_bracket : Piece → Bool
is_open_bracket (In inner.Open) = true
is_open_bracket _ = false

-- a piece is a closing bracket
abbrev pub is_close_bracket : Piece → Bool
is_close_bracket (In inner.Close) = true
is_close_bracket _ = false

-- a piece is a comma
abbrev pub is_comma : Piece → Bool
is_comma Comma = true
is_comma _ = false

-- a piece is `->`
abbrev pub is_arrow : Piece → Bool
is_arrow Arrow = true
is_arrow _ = false

-- a piece is `-{`
abbrev pub is_cost_open : Piece → Bool
is_cost_open CostOpen = true
is_cost_open _ = false

-- a piece is `}>`
abbrev pub is_cost_close : Piece → Bool
is_cost_close CostClose = true
is_cost_close _ = false

-- a piece is the content of a comment
abbrev pub is_comment : Piece → Bool
is_comment (Remark bytes) = true
is_comment _ = false

-- a piece is a name
abbrev pub is_name : Piece → Bool
is_name (In (inner.Word name)) = true
is_name _ = false

-- a piece is a conjunction sign
abbrev pub is_conjunction : Piece → Bool
is_conjunction (In (inner.Joining joint)) = true
is_conjunction _ = false

-- a piece is `:|:`
abbrev pub is_guard_mark : Piece → Bool
is_guard_mark GuardMark = true
is_guard_mark _ = false

-- a piece is `[`
abbrev pub is_square_open : Piece → Bool
is_square_open SquareOpen = true
is_square_open _ = false

-- a piece is `]`
abbrev pub is_square_close : Piece → Bool
is_square_close SquareClose = true
is_square_close _ = false

-- the piece of an expression that a piece is, if it is one
abbrev pub inner_in : Piece → Option inner.Piece
inner_in (In p) = Some p
inner_in _ = None

-- the piece of an expression that an optional piece is, if it is one
abbrev pub inner_next : Option Piece → Option inner.Piece
inner_next None = None
inner_next (Some p) = inner_in p

-- the name that a piece is
abbrev pub word : Piece → Option Name
word (In (inner.Word name)) = Some name
word _ = None

-- a piece is this word
abbrev pub is_word : Name → Piece → Bool
is_word wanted (In (inner.Word name)) = is_same name wanted
is_word wanted _ = false

-- an optional piece is an opening bracket
abbrev pub is_open_bracket_next : Option Piece → Bool
is_open_bracket_next None = false
is_open_bracket_next (Some p) = is_open_bracket p

-- the name that an optional piece is
abbrev pub word_of : Option Piece → Option Name
word_of None = None
word_of (Some p) = word p
