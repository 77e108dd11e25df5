-- The code's parser state as plain data.
use Rattle.std.specs.Prelude.{◌≡◌, ℕ, if◌then◌else◌, Bool, true, false, not, Option, Some, None, Result, Ok, Err, ⊤}
use Rattle.std.specs.Prelude.{IsTrue}
use Rattle.text_core.specs.model.Bounds as bounds
use Rattle.text_core.specs.model.Bounds.{Constant, Input, Parts}
use Rattle.bound_expr.specs.declared.bound.Bound.{Bound}
use Rattle.bound_expr.specs.Views.{bound_of}
use Rattle.bound_text.specs.ParserStates as parser_states
use Rattle.bound_text.specs.ParserStates.{ParserState, Outer, last, init}
use Rattle.bound_text.specs.Steps.{state_at_position, behind_factor}
use Rattle.text_core.specs.Reading.{Answer, Parsed, Refused as RefusedBy}
use Rattle.bound_text.specs.Kinds as plain
use Rattle.bound_text.specs.Checks.{PieceResult, Refused, Reached, takes_caret}
pub use Rattle.bound_text.specs.Brackets.{parts_in, bracket_of, outer_from, outer_of, IsRound}
use Rattle.bound_text.specs.declared.brackets.Brackets.{Brackets}
use Rattle.bound_text.specs.declared.state.Position.{Position}
use Rattle.bound_text.specs.declared.state.Position.TheVariants as at
use Rattle.bound_text.specs.declared.state.Reader.{Reader}
use Rattle.bound_text.specs.declared.error.BoundTextError.{BoundTextError}
use Rattle.bound_text.specs.declared.error.BoundTextError.TheVariants as errors
use Rattle.bound_text.specs.declared.fault.Fault.{Fault}
use Rattle.bound_text.specs.declared.fault.Fault.TheVariants as faults

-- the code's open brackets as surroundings of the innermost bound
abbrev pub outer_in : Brackets → Outer
outer_in b = outer_of b.opened.items

-- the state at a position of the code
abbrev pub state_with : Position → Outer → Parts → Parts → ParserState
state_with at.Begins outer ts fs = state_at_position outer ts fs parser_states.Begins
state_with (at.Number c) outer ts fs = behind_factor outer ts fs (Constant c)
state_with (at.Name i) outer ts fs = behind_factor outer ts fs (Input i)
state_with (at.RunCaret i) outer ts fs = state_at_position outer ts fs (parser_states.RunCaret i)
state_with (at.PowerCaret c) outer ts fs = state_at_position outer ts fs (parser_states.PowerCaret c)
state_with at.ItemRead outer ts fs = state_at_position outer ts fs parser_states.ItemRead
state_with at.BlankRead outer ts fs = state_at_position outer ts fs parser_states.BlankRead
state_with at.PlusRead outer ts fs = state_at_position outer ts fs parser_states.PlusRead
state_with at.CommaRead outer ts fs = state_at_position outer ts fs parser_states.CommaRead

-- the plain state of a reader of the code
abbrev pub state_of : Reader → ParserState
state_of r = state_with r.position (outer_in r.outer) (parts_in r.terms) (parts_in r.factors)

-- whether the position and the factors are settled: no `^` can follow an item that is a factor already, and a variable
-- that is no factor yet continues no run
abbrev pub is_settled_at : Position → Parts → Bool
is_settled_at at.ItemRead fs = not (takes_caret (init fs) (last fs))
is_settled_at (at.Name i) fs = not (parser_states.is_input i (last fs))
is_settled_at position fs = true

abbrev pub is_settled : Reader → Bool
is_settled r = is_settled_at r.position (parts_in r.factors)

-- whether a bracket is that of a maximum
abbrev pub is_arguments : parser_states.Bracket → Bool
is_arguments (parser_states.Arguments bs) = true
is_arguments bracket = false

-- whether a run's number comes next
abbrev pub is_in_run : Position → Bool
is_in_run (at.RunCaret i) = true
is_in_run position = false

-- a refusal of the code is of this kind, if memory suffices
abbrev pub IsKind : plain.Kind → Fault → Type 0
IsKind plain.Syntax faults.Syntax = ⊤
IsKind plain.NumberTooLarge faults.NumberTooLarge = ⊤
IsKind plain.UnknownName faults.UnknownName = ⊤
IsKind plain.TooDeep faults.TooDeep = ⊤
IsKind plain.TooLarge faults.TooLarge = ⊤
IsKind kind faults.Memory = ⊤
IsKind kind fault = ⊥

-- the code's refusal of this kind
abbrev pub fault_from : plain.Kind → Fault
fault_from plain.Syntax = faults.Syntax
fault_from plain.NumberTooLarge = faults.NumberTooLarge
fault_from plain.UnknownName = faults.UnknownName
fault_from plain.TooDeep = faults.TooDeep
fault_from plain.TooLarge = faults.TooLarge

-- the reader's new state is the one that the step leads to; it answers `Syntax` exactly if the step is rejected, if
-- memory suffices
abbrev pub Follows : Option ParserState → Reader → Result (Unit {0}) Fault → Type 0
Follows reached r (Ok u) = (reached ≡ Some (state_of r)) × IsTrue (is_settled r)
Follows reached r (Err faults.Syntax) = reached ≡ None
Follows reached r (Err faults.Memory) = ⊤
Follows reached r (Err fault) = ⊥

-- the reader's new state is the one of the result of taking a piece, or it refuses the piece as that result does, if
-- memory suffices
abbrev pub Obeys : PieceResult → Reader → Result (Unit {0}) Fault → Type 0
Obeys (Reached f) r (Ok u) = (f ≡ state_of r) × IsTrue (is_settled r)
Obeys (Refused kind) r (Ok u) = ⊥
Obeys (Refused kind) r (Err fault) = IsKind kind fault
Obeys (Reached f) r (Err faults.Memory) = ⊤
Obeys (Reached f) r (Err fault) = ⊥

-- the code's own test finds the fault of a piece
abbrev pub FindsFault : Option plain.Kind → Result (Unit {0}) Fault → Type 0
FindsFault None (Ok u) = ⊤
FindsFault None (Err fault) = ⊥
FindsFault (Some kind) (Ok u) = ⊥
FindsFault (Some kind) (Err fault) = fault ≡ fault_from kind

-- the result is the bound of the text that ends here; `Syntax` is answered exactly if there is none, if memory suffices
abbrev pub Finishes : Option bounds.Bound → Result Bound Fault → Type 0
Finishes bound (Ok b) = bound ≡ Some (bound_of b)
Finishes bound (Err faults.Syntax) = bound ≡ None
Finishes bound (Err faults.Memory) = ⊤
Finishes bound (Err fault) = ⊥

-- an error is a refusal of this kind at this position, or running out of memory
abbrev pub IsRefusal : plain.Kind → ℕ → BoundTextError → Type 0
IsRefusal plain.Syntax at (errors.Syntax p) = p ≡ at
IsRefusal plain.NumberTooLarge at (errors.NumberTooLarge p) = p ≡ at
IsRefusal plain.UnknownName at (errors.UnknownName p) = p ≡ at
IsRefusal plain.TooDeep at (errors.TooDeep p) = p ≡ at
IsRefusal plain.TooLarge at (errors.TooLarge p) = p ≡ at
IsRefusal kind at errors.Memory = ⊤
IsRefusal kind at error = ⊥

-- the code's result agrees with the answer of reading, if memory suffices
abbrev pub Says : Answer bounds.Bound plain.Kind → Result Bound BoundTextError → Type 0
Says (Parsed b) (Ok a) = bound_of a ≡ b
Says (Parsed b) (Err errors.Memory) = ⊤
Says (Parsed b) (Err error) = ⊥
Says (RefusedBy x) (Ok a) = ⊥
Says (RefusedBy x) (Err error) = IsRefusal x.kind x.at error

-- the nodes of the sum, of the product, and of an item that has begun but is no factor yet, by the position of the code
abbrev pub sum_here : Position → Outer → Parts → ℕ
sum_here at.BlankRead outer ts = if parser_states.in_factor outer then 0 else 1
sum_here at.PlusRead outer ts = if parser_states.in_factor outer then 0 else 1
sum_here position outer ts = parser_states.sum_node outer ts

abbrev pub product_here : Position → Parts → ℕ
product_here at.ItemRead fs = parser_states.product_node fs
product_here at.BlankRead fs = parser_states.product_node fs
product_here at.PlusRead fs = parser_states.product_node fs
product_here at.CommaRead fs = parser_states.product_node fs
product_here position fs = parser_states.node_of_any fs

abbrev pub item_here : Position → ℕ
item_here (at.Number c) = 1
item_here (at.Name i) = 1
item_here (at.RunCaret i) = 1
item_here (at.PowerCaret c) = 1
item_here position = 0
