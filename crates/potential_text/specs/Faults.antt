-- The faults of the pieces of lines.
use Rattle.std.specs.Prelude.{ℕ, ◌-◌, ◌^◌, ◌==◌, Bool, true, false, ◌&&◌, not, nat_lt, nat_le, if◌then◌else◌, List, length}
use Rattle.std.specs.Prelude.{Option, Some, None}
use Rattle.text_grammar.specs.text_core.Choices.{when}
use Rattle.text_grammar.specs.text_core.Names.{is_among}
use Rattle.text_grammar.specs.text_core.Readers.{Fault}
use Rattle.its_model.specs.model.Programs.{Name}
use Rattle.its_model.specs.linear_forms.Limits.{certificate_limit}
use Rattle.signed_bounds.specs.Limits.{constant_limit, depth_limit, node_limit}
use Rattle.potential_text.specs.declared.action.Field.{Field}
use Rattle.potential_text.specs.declared.action.Field.TheVariants as fields
use Rattle.potential_text.specs.declared.action.Role.{Role}
use Rattle.potential_text.specs.declared.action.Role.TheVariants as roles
use Rattle.potential_text.specs.declared.kind.LineKind.{LineKind}
use Rattle.potential_text.specs.declared.kind.LineKind.TheVariants.{Syntax, NumberTooLarge, TooDeep, BadReference, Limit}
use Rattle.potential_text.specs.declared.kind.Part.{Part}
use Rattle.potential_text.specs.declared.kind.Part.TheVariants.{Lemmas, Claims}
use Rattle.potential_text.specs.declared.numbers.Numbers.{Numbers}
use Rattle.potential_text.specs.declared.piece.Word.TheVariants as words
use Rattle.potential_text.specs.declared.piece.Sort.{Sort}
use Rattle.potential_text.specs.declared.piece.Sort.TheVariants as sorts
use Rattle.potential_text.specs.declared.piece.Piece.{Piece}
use Rattle.potential_text.specs.Numbers.{is_node}
use Rattle.potential_text.specs.Drafts.{Draft, name_bytes, number_in}

-- at most so many lines
abbrev pub line_limit : ℕ
line_limit = 100000

-- the number of a kind: of two kinds at one position the one with the lesser number is reported
abbrev pub number_of : LineKind → ℕ
number_of Syntax = 1
number_of NumberTooLarge = 2
number_of TooDeep = 3
number_of BadReference = 4
number_of Limit = 5

-- the first of two faults, where there are both
abbrev pub or_else : Option LineKind → Option LineKind → Option LineKind
or_else None other = other
or_else (Some kind) other = Some kind

-- the maximum number of a field: 2^56, of rules, places, facts, rows and variables 2^32-1, of bases 2^64-1, and of
-- divisors 2^127-1
abbrev pub limit_of : Field → ℕ
limit_of fields.Size = certificate_limit
limit_of fields.Rule = 2 ^ 32 - 1
limit_of fields.Step = 2 ^ 32 - 1
limit_of fields.Place = 2 ^ 32 - 1
limit_of fields.First = 2 ^ 32 - 1
limit_of fields.Second = 2 ^ 32 - 1
limit_of fields.Row = 2 ^ 32 - 1
limit_of fields.Other = 2 ^ 32 - 1
limit_of fields.Variable = 2 ^ 32 - 1
limit_of fields.Den = certificate_limit
limit_of fields.Amount = certificate_limit
limit_of fields.Base = 2 ^ 64 - 1
limit_of fields.Divisor = constant_limit

-- whether a field is the number of a row or of a variable, which is counted from 1 on
abbrev pub is_index : Field → Bool
is_index fields.Row = true
is_index fields.Other = true
is_index fields.Variable = true
is_index field = false

-- the fault of a number: it is over a limit
abbrev pub fault_over : ℕ → ℕ → Option LineKind
fault_over limit n = when (nat_lt limit n) NumberTooLarge

-- the fault of the number of a row or of a variable: it is over the limit, or 0
abbrev pub fault_of_index : ℕ → ℕ → Option LineKind
fault_of_index limit n = or_else (fault_over limit n) (when (n == 0) BadReference)

-- the fault of a number of a field
abbrev pub fault_of_field : Field → ℕ → Option LineKind
fault_of_field field n = if is_index field then fault_of_index (limit_of field) n else fault_over (limit_of field) n

-- whether a word begins the lines of a text
abbrev pub begins_line : Part → Sort → Bool
begins_line Lemmas (sorts.Name words.Signed) = true
begins_line Claims (sorts.Name words.Claim) = true
begins_line _ _ = false

-- the number of lines that were read
abbrev pub lines_in : Part → Draft → ℕ
lines_in Lemmas d = length d.lemmas
lines_in Claims d = length d.claims

-- the fault of the word of a line: the text has no such lines, or it is one line too many
abbrev pub fault_of_line : Part → Sort → Draft → Option LineKind
fault_of_line part sort d =
    or_else (when (not (begins_line part sort)) Syntax) (when (nat_le line_limit (lines_in part d)) Limit)

-- the fault of the name of a symbol: none has it
abbrev pub fault_of_symbol : List Name → Name → Option LineKind
fault_of_symbol names name = when (not (is_among name names)) BadReference

-- the fault of a part of a bound: it is at level 201
abbrev pub fault_of_level : Draft → Option LineKind
fault_of_level d = when (nat_le depth_limit (length d.bound.opened)) TooDeep

-- the fault of a piece in a role
abbrev pub fault_in : Role → Part → List Name → List ℕ → Piece → Draft → Option LineKind
fault_in roles.Plain part names text p d = None
fault_in roles.LineWord part names text p d = fault_of_line part p.sort d
fault_in roles.Symbol part names text p d = fault_of_symbol names (name_bytes text p)
fault_in (roles.Number field) part names text p d = fault_of_field field (number_in p.sort)
fault_in roles.Factor part names text p d = fault_of_index (2 ^ 32 - 1) (number_in p.sort)
fault_in roles.Listed part names text p d = fault_over (2 ^ 32 - 1) (number_in p.sort)
fault_in roles.Constant part names text p d =
    or_else (fault_over constant_limit (number_in p.sort)) (fault_of_level d)
fault_in roles.BoundWord part names text p d = fault_of_level d

-- the fault of a node of a bound: there are 4,096 before it
abbrev pub fault_of_node : Role → Numbers → Option LineKind
fault_of_node role s = when ((s.bounding && is_node role) && nat_le node_limit s.nodes) Limit

-- the fault of a piece
abbrev pub fault_of_piece : Part → List Name → List ℕ → Piece → Draft → Option LineKind
fault_of_piece part names text p d =
    or_else (fault_in d.role part names text p d) (fault_of_node d.role d.numbers)

-- a refusal of a kind at a position, if there is one
abbrev pub kind_at : Option LineKind → ℕ → Option (Fault LineKind)
kind_at None at = None
kind_at (Some kind) at = Some (record { kind = kind; at = at })

-- a refusal, unless there was one before
abbrev pub shown_at : Bool → Option LineKind → ℕ → Option (Fault LineKind)
shown_at broken kind at = if broken then None else kind_at kind at
