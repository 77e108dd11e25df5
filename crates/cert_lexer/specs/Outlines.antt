-- Outlines: the data that steps depend on, of the pieces of a bound read so far, in constant size and without a tree.
use Rattle.std.specs.Prelude.{ℕ, Bool, true, false, not, ◌&&◌, ◌==◌, nat_lt, if◌then◌else◌, is_some, List, [], ◌∷◌}
use Rattle.std.specs.Prelude.{Option, Some, None}
use Rattle.std.specs.Option.{option_map}
use Rattle.its_model.specs.model.Bounds.{Bound, Constant, Input, SumOf, ProductOf, MaximumOf, PowerOf, Parts}
use Rattle.bound_text.specs.Shapes.{is_empty}
use Rattle.bound_text.specs.Pieces.{Piece, Variable, Number, Maximum, Open, Close, Times, Caret, Plus, Blank, Comma}
use Rattle.bound_text.specs.ParserStates as fronts
use Rattle.bound_text.specs.ParserStates.{Arguments, Exponent, Factor, Outer, Whole, Inside, Position, Begins, RunCaret}
use Rattle.bound_text.specs.ParserStates.{PowerCaret, ItemRead, BlankRead, PlusRead, CommaRead, ParserState, last, init}
use Rattle.bound_text.specs.Steps.{when}
use Rattle.cert_lexer.specs.declared.outline.Shape.{Shape}
use Rattle.cert_lexer.specs.declared.outline.Shape.TheVariants as shape
use Rattle.cert_lexer.specs.declared.outline.Opening.{Opening}
use Rattle.cert_lexer.specs.declared.outline.Opening.TheVariants as opening
use Rattle.cert_lexer.specs.declared.outline.Frame.{Frame}
use Rattle.cert_lexer.specs.declared.outline.Stage.{Stage}
use Rattle.cert_lexer.specs.declared.outline.Stage.TheVariants as stage
use Rattle.cert_lexer.specs.declared.outline.Innermost.{Innermost}
use Rattle.cert_lexer.specs.declared.outline.Change.{Change}
use Rattle.cert_lexer.specs.declared.outline.Change.TheVariants as change
use Rattle.cert_lexer.specs.declared.outline.OutlineStep.{OutlineStep}

-- the shape of a part: of a constant whether it can be a base, of a variable which one, and of others the kind alone
abbrev pub shape_of : Bound → Shape
shape_of (Constant c) = shape.Constant (nat_lt 1 c)
shape_of (Input i) = shape.Input i
shape_of (SumOf bs) = shape.Sum
shape_of (ProductOf bs) = shape.Other
shape_of (MaximumOf bs) = shape.Maximum
shape_of (PowerOf c e) = shape.Other

-- the shape of the last of some factors, where there is one
abbrev pub last_of : Parts → Option Shape
last_of fs = option_map shape_of (last fs)

-- the shape is that of variable i
abbrev pub is_last_input : ℕ → Option Shape → Bool
is_last_input i (Some (shape.Input j)) = j == i
is_last_input i item = false

-- the shape of some factor, if there is one
abbrev pub any_factor : Bool → Option Shape
any_factor false = None
any_factor true = Some shape.Other

-- the factors before the last one: their exact shape, if a `^` can take the last factor back; else only whether there
-- are some
abbrev pub before_last : Option Shape → Option Shape → Option Shape
before_last None before = None
before_last (Some (shape.Constant base)) before = before
before_last (Some (shape.Input i)) before = before
before_last (Some item) before = any_factor (is_some before)

-- the factors before the last one, if an item was read last
abbrev pub before_at : Position → Parts → Option Shape
before_at ItemRead fs = before_last (last_of fs) (last_of (init fs))
before_at position fs = None

-- the stage of a position
abbrev pub stage_of : Position → Stage
stage_of Begins = stage.Begins
stage_of (RunCaret i) = stage.Run i
stage_of (PowerCaret c) = stage.Power
stage_of ItemRead = stage.Item
stage_of BlankRead = stage.Blank
stage_of PlusRead = stage.Plus
stage_of CommaRead = stage.Comma

-- the node that an open bracket belongs to
abbrev pub opening_of : fronts.Bracket → Opening
opening_of (Arguments bs) = opening.Maximum (not (is_empty bs))
opening_of (Exponent c) = opening.Exponent
opening_of Factor = opening.Factor

-- the open brackets, the innermost first
abbrev pub frames_of : Outer → List Frame
frames_of Whole = []
frames_of (Inside bracket ts fs outer) =
    record { opening = opening_of bracket; terms = not (is_empty ts); factors = is_some (last_of fs) }
    ∷ frames_of outer

-- the innermost bound
abbrev pub innermost_of : ParserState → Innermost
innermost_of f = record {
  terms = not (is_empty f.terms);
  before = before_at f.position f.factors;
  last = last_of f.factors;
  stage = stage_of f.position;
}

-- the innermost bound with an item as its last factor; the factor that was last comes before it
abbrev pub with_item : Shape → Innermost → Innermost
with_item item i = record i { before = before_last (Some item) i.last; last = Some item; stage = stage.Item }

-- the innermost bound after a piece that completes no item
abbrev pub at_stage : Stage → Innermost → Innermost
at_stage s i = record i { before = None; stage = s }

-- an innermost bound of which nothing has been read
abbrev pub begun : Innermost
begun = record { terms = false; before = None; last = None; stage = stage.Begins }

-- the step that leads to this innermost bound and keeps the open brackets
abbrev pub stays : Innermost → OutlineStep
stays i = record { innermost = i; change = change.Keep }

-- the step with which a bracket opens
abbrev pub opens : Opening → Innermost → OutlineStep
opens belongs i = record {
  innermost = begun;
  change = change.Open (record { opening = belongs; terms = i.terms; factors = is_some i.last });
}

-- the step of a piece with which an item begins
abbrev pub begins_item : Innermost → Piece → Option OutlineStep
begins_item i (Variable v) = when (not (is_last_input v i.last)) (stays (with_item (shape.Input v) i))
begins_item i (Number c) = Some (stays (with_item (shape.Constant (nat_lt 1 c)) i))
begins_item i Maximum = Some (opens (opening.Maximum false) i)
begins_item i Open = Some (opens opening.Factor i)
begins_item i piece = None

-- the step of the number of a run
abbrev pub ends_run : ℕ → Innermost → Piece → Option OutlineStep
ends_run v i (Number n) =
    when (nat_lt 1 n)
    (stays (record i { before = Some (shape.Input v); last = Some (shape.Input v); stage = stage.Item }))
ends_run v i piece = None

-- the step of a piece with which an exponent begins
abbrev pub begins_exponent : Innermost → Piece → Option OutlineStep
begins_exponent i (Number n) = Some (stays (with_item shape.Other i))
begins_exponent i (Variable v) = Some (stays (with_item shape.Other i))
begins_exponent i Open = Some (opens opening.Exponent i)
begins_exponent i piece = None

-- the step of `^` after an item, which takes back the last factor, a base or the variable of a run
abbrev pub takes_back : Option Shape → Innermost → Option OutlineStep
takes_back (Some (shape.Constant base)) i =
    when base (stays (record i { before = None; last = i.before; stage = stage.Power }))
takes_back (Some (shape.Input v)) i =
    when (not (is_last_input v i.before)) (stays (record i { before = None; last = i.before; stage = stage.Run v }))
takes_back item i = None

-- whether a term can end after the factors: not after a lone sum in brackets
abbrev pub ends_term : Option Shape → Option Shape → Bool
ends_term before None = false
ends_term None (Some shape.Sum) = false
ends_term before (Some item) = true

-- the shape of the term that factors make
abbrev pub term_shape : Option Shape → Option Shape → Shape
term_shape None (Some item) = item
term_shape before last = shape.Other

-- the shape of the bound that the factors make with the terms before
abbrev pub bound_shape : Innermost → Shape
bound_shape i = if i.terms then shape.Sum else term_shape i.before i.last

-- whether a shape is that of a leaf, of a maximum, or of a sum
abbrev pub is_leaf_shape : Shape → Bool
is_leaf_shape (shape.Constant base) = true
is_leaf_shape (shape.Input i) = true
is_leaf_shape item = false

abbrev pub is_maximum_shape : Shape → Bool
is_maximum_shape shape.Maximum = true
is_maximum_shape item = false

abbrev pub is_sum_shape : Shape → Bool
is_sum_shape shape.Sum = true
is_sum_shape item = false

-- whether a bracket can close after a bound
abbrev pub closes_behind : Opening → Shape → Bool
closes_behind (opening.Maximum some) item = some && not (is_maximum_shape item)
closes_behind opening.Exponent item = not (is_leaf_shape item)
closes_behind opening.Factor item = is_sum_shape item

-- the shape of the item that a bracket makes of its bound
abbrev pub item_shape : Opening → Shape
item_shape (opening.Maximum some) = shape.Maximum
item_shape opening.Exponent = shape.Other
item_shape opening.Factor = shape.Sum

-- the innermost bound after a bracket that closed
abbrev pub behind_bracket : Frame → Innermost
behind_bracket frame = record {
  terms = frame.terms;
  before = any_factor frame.factors;
  last = Some (item_shape frame.opening);
  stage = stage.Item;
}

-- the step of a closing bracket
abbrev pub closes : Option Frame → Innermost → Option OutlineStep
closes None i = None
closes (Some frame) i =
    when (ends_term i.before i.last && closes_behind frame.opening (bound_shape i))
    (record { innermost = behind_bracket frame; change = change.Close })

-- whether a bracket is that of a maximum
abbrev pub is_of_maximum : Opening → Bool
is_of_maximum (opening.Maximum some) = true
is_of_maximum belongs = false

abbrev pub in_maximum : Option Frame → Bool
in_maximum None = false
in_maximum (Some frame) = is_of_maximum frame.opening

-- whether an argument can end here: it is no maximum, and is in the brackets of one
abbrev pub ends_argument : Option Frame → Innermost → Bool
ends_argument round i =
    in_maximum round && (ends_term i.before i.last && not (is_maximum_shape (bound_shape i)))

-- the step of a piece that follows an item
abbrev pub follows_item : Option Frame → Innermost → Piece → Option OutlineStep
follows_item round i Times = Some (stays (at_stage stage.Begins i))
follows_item round i Caret = takes_back i.last i
follows_item round i Blank = when (ends_term i.before i.last) (stays (at_stage stage.Blank i))
follows_item round i Comma = when (ends_argument round i) (stays (at_stage stage.Comma i))
follows_item round i Close = closes round i
follows_item round i piece = None

-- the step of a piece after the `+` of ` + `, and after the `,` of `, `
abbrev pub ends_plus : Piece → Option OutlineStep
ends_plus Blank = Some (record { innermost = record begun { terms = true }; change = change.Term })
ends_plus piece = None

abbrev pub ends_comma : Option Frame → Piece → Option OutlineStep
ends_comma round Blank = when (in_maximum round) (record { innermost = begun; change = change.Argue })
ends_comma round piece = None

-- the step of a piece, inside the innermost open bracket, if one is open
abbrev pub lead_at : Stage → Option Frame → Innermost → Piece → Option OutlineStep
lead_at stage.Begins round i piece = begins_item i piece
lead_at (stage.Run v) round i piece = ends_run v i piece
lead_at stage.Power round i piece = begins_exponent i piece
lead_at stage.Item round i piece = follows_item round i piece
lead_at stage.Blank round i Plus = Some (stays (at_stage stage.Plus i))
lead_at stage.Plus round i piece = ends_plus piece
lead_at stage.Comma round i piece = ends_comma round piece
lead_at s round i piece = None

abbrev pub lead : Option Frame → Innermost → Piece → Option OutlineStep
lead round i piece = lead_at i.stage round i piece

-- the innermost open bracket
abbrev pub innermost_frame : List Frame → Option Frame
innermost_frame [] = None
innermost_frame (frame ∷ frames) = Some frame

-- the open brackets after a change
abbrev pub frames_behind : Change → List Frame → List Frame
frames_behind change.Keep frames = frames
frames_behind change.Term frames = frames
frames_behind (change.Open frame) frames = frame ∷ frames
frames_behind change.Close [] = []
frames_behind change.Close (frame ∷ frames) = frames
frames_behind change.Argue [] = []
frames_behind change.Argue (frame ∷ frames) = record frame { opening = opening.Maximum true } ∷ frames
