-- The steps of parsing a bound.
use Rattle.std.specs.Prelude.{ℕ, zero, suc, Bool, true, false, not, ◌&&◌, nat_lt, List, Option, Some, None}
use Rattle.text_core.specs.model.Bounds.{Bound, Constant, Input, MaximumOf, PowerOf, Parts, NoParts}
pub use Rattle.text_core.specs.Choices.{when}
use Rattle.text_core.specs.Readers as readers
use Rattle.bound_text.specs.Shapes.{is_sum, is_maximum, is_leaf, is_empty, with_part}
use Rattle.bound_text.specs.Pieces.{Piece, Variable, Number, Maximum, Open, Close, Times, Caret, Plus, Blank, Comma}
use Rattle.bound_text.specs.ParserStates.{Bracket, Arguments, Exponent, Factor, Outer, Whole, Inside, Position, Begins}
use Rattle.bound_text.specs.ParserStates.{RunCaret, PowerCaret, ItemRead, BlankRead, PlusRead, CommaRead, ParserState, last, init}
use Rattle.bound_text.specs.ParserStates.{is_input, term_of, bound_of_parts, can_end, can_be_argument}

-- n times variable i after the factors
abbrev pub with_copies : ℕ → ℕ → Parts → Parts
with_copies zero i fs = fs
with_copies (suc n) i fs = with_part (with_copies n i fs) (Input i)

-- the state with these surroundings, terms, factors and position
abbrev pub state_at_position : Outer → Parts → Parts → Position → ParserState
state_at_position outer ts fs position = record { outer = outer; terms = ts; factors = fs; position = position }

-- the state in which nothing has been read
abbrev pub beginning : ParserState
beginning = state_at_position Whole NoParts NoParts Begins

-- the state inside a bracket that begins an item
abbrev pub inside : Bracket → Outer → Parts → Parts → ParserState
inside bracket outer ts fs = state_at_position (Inside bracket ts fs outer) NoParts NoParts Begins

-- the state after one more factor
abbrev pub behind_factor : Outer → Parts → Parts → Bound → ParserState
behind_factor outer ts fs b = state_at_position outer ts (with_part fs b) ItemRead

-- the state after a piece with which an item begins
abbrev pub begin_item : Outer → Parts → Parts → Piece → Option ParserState
begin_item outer ts fs (Variable i) = when (not (is_input i (last fs))) (behind_factor outer ts fs (Input i))
begin_item outer ts fs (Number c) = Some (behind_factor outer ts fs (Constant c))
begin_item outer ts fs Maximum = Some (inside (Arguments NoParts) outer ts fs)
begin_item outer ts fs Open = Some (inside Factor outer ts fs)
begin_item outer ts fs piece = None

-- the state after the number of a run
abbrev pub end_run : Outer → Parts → Parts → ℕ → Piece → Option ParserState
end_run outer ts fs i (Number n) = when (nat_lt 1 n) (state_at_position outer ts (with_copies n i fs) ItemRead)
end_run outer ts fs i piece = None

-- the state after a piece with which an exponent begins
abbrev pub begin_exponent : Outer → Parts → Parts → ℕ → Piece → Option ParserState
begin_exponent outer ts fs c (Number n) = Some (behind_factor outer ts fs (PowerOf c (Constant n)))
begin_exponent outer ts fs c (Variable i) = Some (behind_factor outer ts fs (PowerOf c (Input i)))
begin_exponent outer ts fs c Open = Some (inside (Exponent c) outer ts fs)
begin_exponent outer ts fs c piece = None

-- the state after `^` that follows a factor, which is a base or the variable of a run
abbrev pub caret_behind : Outer → Parts → Parts → Option Bound → Option ParserState
caret_behind outer ts fs (Some (Constant c)) = when (nat_lt 1 c) (state_at_position outer ts fs (PowerCaret c))
caret_behind outer ts fs (Some (Input i)) = when (not (is_input i (last fs))) (state_at_position outer ts fs (RunCaret i))
caret_behind outer ts fs factor = None

-- whether a bracket can close after a bound
abbrev pub can_close : Bracket → Bound → Bool
can_close (Arguments bs) b = not (is_empty bs) && not (is_maximum b)
can_close (Exponent c) b = not (is_leaf b)
can_close Factor b = is_sum b

-- whether the innermost bracket can close after a bound
abbrev pub innermost_can_close : Outer → Bound → Bool
innermost_can_close Whole b = false
innermost_can_close (Inside bracket ts fs outer) b = can_close bracket b

-- the item that a bracket's bound makes
abbrev pub item_of : Bracket → Bound → Bound
item_of (Arguments bs) b = MaximumOf (with_part bs b)
item_of (Exponent c) b = PowerOf c b
item_of Factor b = b

-- the state after a bracket closes
abbrev pub close_bracket : Outer → Parts → Parts → Option ParserState
close_bracket Whole ts fs = None
close_bracket (Inside bracket ts' fs' outer) ts fs =
    when (can_end fs && can_close bracket (bound_of_parts ts fs))
    (behind_factor outer ts' fs' (item_of bracket (bound_of_parts ts fs)))

-- the state after a piece that follows an item
abbrev pub follow_item : Outer → Parts → Parts → Piece → Option ParserState
follow_item outer ts fs Times = Some (state_at_position outer ts fs Begins)
follow_item outer ts fs Caret = caret_behind outer ts (init fs) (last fs)
follow_item outer ts fs Blank = when (can_end fs) (state_at_position outer ts fs BlankRead)
follow_item outer ts fs Comma = when (can_be_argument outer ts fs) (state_at_position outer ts fs CommaRead)
follow_item outer ts fs Close = close_bracket outer ts fs
follow_item outer ts fs piece = None

-- the state after a comma that ends an argument
abbrev pub end_argument : Outer → Parts → Parts → Option ParserState
end_argument (Inside (Arguments bs) ts' fs' outer) ts fs =
    Some (inside (Arguments (with_part bs (bound_of_parts ts fs))) outer ts' fs')
end_argument outer ts fs = None

-- the state after a piece
abbrev pub step_at : Position → Outer → Parts → Parts → Piece → Option ParserState
step_at Begins outer ts fs piece = begin_item outer ts fs piece
step_at (RunCaret i) outer ts fs piece = end_run outer ts fs i piece
step_at (PowerCaret c) outer ts fs piece = begin_exponent outer ts fs c piece
step_at ItemRead outer ts fs piece = follow_item outer ts fs piece
step_at BlankRead outer ts fs Plus = Some (state_at_position outer ts fs PlusRead)
step_at PlusRead outer ts fs Blank = Some (state_at_position outer (with_part ts (term_of fs)) NoParts Begins)
step_at CommaRead outer ts fs Blank = end_argument outer ts fs
step_at position outer ts fs piece = None

-- the state after a piece from the part that has been read
abbrev pub step : ParserState → Piece → Option ParserState
step f piece = step_at f.position f.outer f.terms f.factors piece

-- the state that pieces lead to, one after the other
abbrev pub walk : Option ParserState → List Piece → Option ParserState
walk reached pieces = readers.walk step reached pieces

-- whether nothing surrounds the bound
abbrev pub is_whole : Outer → Bool
is_whole Whole = true
is_whole (Inside bracket ts fs outer) = false

-- the bound of a text that ends in this state, by the position
abbrev pub finish_at : Position → Outer → Parts → Parts → Option Bound
finish_at ItemRead outer ts fs = when (is_whole outer && can_end fs) (bound_of_parts ts fs)
finish_at position outer ts fs = None

-- the bound of a text that ends here
abbrev pub finish : ParserState → Option Bound
finish f = finish_at f.position f.outer f.terms f.factors
