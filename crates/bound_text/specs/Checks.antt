-- Whether a piece can be taken.
use Rattle.std.specs.Prelude.{ℕ, Bool, true, false, if◌then◌else◌, not, ◌&&◌, ◌||◌, nat_lt, nat_le, List, [], ◌∷◌}
use Rattle.std.specs.Prelude.{Option, Some, None}
use Rattle.text_core.specs.model.Bounds.{Bound, Constant, Input, Parts}
use Rattle.bound_text.specs.Pieces.{Piece, Variable, Number, Caret}
use Rattle.bound_text.specs.ParserStates.{ParserState, Position, Begins, ItemRead, last, is_input, nodes_of, inner_levels}
use Rattle.bound_text.specs.Steps.{step}
use Rattle.bound_text.specs.Kinds.{Kind, Syntax, NumberTooLarge, UnknownName, TooDeep, TooLarge}
use Rattle.bound_expr.specs.Limits.{cap, too_large_base, depth_limit, node_limit}

-- the result of taking a piece: a refusal, or the new state
pub data PieceResult : Type 0 where
  Refused : Kind → PieceResult
  Reached : ParserState → PieceResult

-- what has been read is taken if it is within the limits, else refused
abbrev pub sized : ParserState → PieceResult
sized f =
    if nat_lt depth_limit (inner_levels f) then Refused TooDeep
    else if nat_lt node_limit (nodes_of f) then Refused TooLarge else Reached f

-- whether a number is over 2^127-1
abbrev pub is_large : Piece → Bool
is_large (Number c) = nat_le cap c
is_large piece = false

-- whether a base is under 2
abbrev pub is_small_base : Piece → Bool
is_small_base (Number c) = nat_lt c 2
is_small_base piece = false

-- whether a base is over 2^64-1
abbrev pub is_large_base : Piece → Bool
is_large_base (Number c) = nat_le too_large_base c
is_large_base piece = false

-- whether a variable is none of the first n
abbrev pub is_unlisted : ℕ → Piece → Bool
is_unlisted n (Variable i) = nat_le n i
is_unlisted n piece = false

-- the fault of a piece by itself, where `base` says whether it would be a base
abbrev pub fault_of : ℕ → Bool → Piece → Option Kind
fault_of n base piece =
    if base && is_small_base piece then Some Syntax
    else if is_large piece || (base && is_large_base piece) then Some NumberTooLarge
    else if is_unlisted n piece then Some UnknownName
    else None

-- whether an item begins
abbrev pub begins : Position → Bool
begins Begins = true
begins position = false

-- whether a product's last factor is a constant over 2^64-1
abbrev pub is_large_number : Option Bound → Bool
is_large_number (Some (Constant c)) = nat_le too_large_base c
is_large_number factor = false

-- whether a piece is the `^` after a base over 2^64-1
abbrev pub has_large_base_at : Position → Parts → Piece → Bool
has_large_base_at ItemRead fs Caret = is_large_number (last fs)
has_large_base_at position fs piece = false

-- whether the base that ends here is too large
abbrev pub has_large_base : ParserState → Piece → Bool
has_large_base f piece = has_large_base_at f.position f.factors piece

-- the result of a piece with this fault that leads to this state
abbrev pub fault_or_state : Option Kind → Option ParserState → PieceResult
fault_or_state fault None = Refused Syntax
fault_or_state (Some kind) (Some f) = Refused kind
fault_or_state None (Some f) = sized f

-- the result of taking a piece, where n names are listed, and `caret` says whether `^` comes next
abbrev pub piece_result : ℕ → Bool → ParserState → Piece → PieceResult
piece_result n caret f piece =
    if has_large_base f piece then Refused NumberTooLarge
    else fault_or_state (fault_of n (begins f.position && caret) piece) (step f piece)

-- whether `^` can follow a product's last factor: a constant, or a variable that is the only factor
abbrev pub takes_caret : Parts → Option Bound → Bool
takes_caret fs (Some (Constant c)) = true
takes_caret fs (Some (Input i)) = not (is_input i (last fs))
takes_caret fs factor = false

-- whether a piece is `^`
abbrev pub is_caret : Piece → Bool
is_caret Caret = true
is_caret piece = false

-- whether `^` comes next
abbrev pub caret_next : List Piece → Bool
caret_next [] = false
caret_next (piece ∷ rest) = is_caret piece
