-- The faults of the pieces of a section.
use Rattle.std.specs.Prelude.{ℕ, Bool, not, is_some, nat_lt, nat_le, if◌then◌else◌, List, length, map, Option, Some, None}
use Rattle.text_grammar.specs.text_core.Choices.{when}
use Rattle.text_grammar.specs.text_core.Names.{is_among}
use Rattle.text_grammar.specs.text_core.Readers.{Fault}
use Rattle.its_model.specs.model.Limits.{name_limit}
use Rattle.its_model.specs.model.Programs.{Name, Program, rule_at}
use Rattle.its_model.specs.linear_forms.Limits.{certificate_limit}
use Rattle.section_text.specs.declared.action.Role.{Role}
use Rattle.section_text.specs.declared.action.Role.TheVariants as roles
use Rattle.section_text.specs.declared.kind.SectionKind.{SectionKind}
use Rattle.section_text.specs.declared.kind.SectionKind.TheVariants.{Syntax, NumberTooLarge, TooDeep, BadReference, Limit}
use Rattle.section_text.specs.declared.piece.Piece.{Piece}
use Rattle.section_text.specs.Drafts.{Draft, name_bytes, number_in}

-- the maximum numbers of copies and of branches, and the maximum level of cases; those of a line are at level 1
abbrev pub copy_limit : ℕ
copy_limit = 2000

abbrev pub branch_limit : ℕ
branch_limit = 100000

abbrev pub level_limit : ℕ
level_limit = 64

-- the number of a kind: of two kinds at one position the one with the lesser number is reported
abbrev pub number_of : SectionKind → ℕ
number_of Syntax = 1
number_of NumberTooLarge = 2
number_of TooDeep = 3
number_of BadReference = 4
number_of Limit = 5

-- the first fault if there is one, else the other
abbrev pub or_else : Option SectionKind → Option SectionKind → Option SectionKind
or_else None other = other
or_else (Some kind) other = Some kind

-- the fault of a number: it is over the limit
abbrev pub fault_of_number : ℕ → Option SectionKind
fault_of_number n = when (nat_lt certificate_limit n) NumberTooLarge

-- the fault of the number of a rule: it is over the limit, or no rule has it
abbrev pub fault_of_rule : Program → ℕ → Option SectionKind
fault_of_rule q n = or_else (fault_of_number n) (when (not (is_some (rule_at q n))) BadReference)

-- the fault of the name of a new copy: an earlier one has it, or it is too long
abbrev pub fault_of_new_name : Name → Draft → Option SectionKind
fault_of_new_name name d =
    or_else (when (is_among name d.names) BadReference) (when (nat_lt name_limit (length name)) Limit)

-- the fault of the name of a copy, and that of the name of a symbol: none has it
abbrev pub fault_of_copy : Name → Draft → Option SectionKind
fault_of_copy name d = when (not (is_among name d.names)) BadReference

abbrev pub fault_of_symbol : Name → Program → Option SectionKind
fault_of_symbol name q = when (not (is_among name (map (λ s. s.name) q.symbols))) BadReference

-- the fault of a piece, by its role
abbrev pub fault_of_in : Role → Program → List ℕ → Piece → Draft → Option SectionKind
fault_of_in roles.Plain q text p d = None
fault_of_in roles.CopyWord q text p d = when (nat_le copy_limit (length d.copies)) Limit
fault_of_in roles.NewName q text p d = fault_of_new_name (name_bytes text p) d
fault_of_in roles.Symbol q text p d = fault_of_symbol (name_bytes text p) q
fault_of_in roles.BranchWord q text p d = when (nat_le branch_limit (length d.branches)) Limit
fault_of_in roles.Source q text p d = fault_of_copy (name_bytes text p) d
fault_of_in roles.Rule q text p d = fault_of_rule q (number_in p.sort)
fault_of_in roles.CaseWord q text p d = when (nat_le level_limit (length d.tests)) TooDeep
fault_of_in roles.Target q text p d = fault_of_copy (name_bytes text p) d
fault_of_in roles.Integer q text p d = fault_of_number (number_in p.sort)
fault_of_in roles.Multiplier q text p d = fault_of_number (number_in p.sort)

-- the fault of a piece
abbrev pub fault_of_piece : Program → List ℕ → Piece → Draft → Option SectionKind
fault_of_piece q text p d = fault_of_in d.role q text p d

-- a refusal of a kind at a position, if there is one
abbrev pub kind_at : Option SectionKind → ℕ → Option (Fault SectionKind)
kind_at None at = None
kind_at (Some kind) at = Some (record { kind = kind; at = at })

-- the refusal of a kind at a position, if there was no fault before
abbrev pub shown_at : Bool → Option SectionKind → ℕ → Option (Fault SectionKind)
shown_at broken kind at = if broken then None else kind_at kind at
