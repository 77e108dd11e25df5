-- The faults of the tokens of a while program.
use Rattle.std.specs.Prelude.{ℕ, ◌-◌, Bool, true, false, not, ◌&&◌, ◌||◌, ◌==◌, nat_lt, nat_le, if◌then◌else◌, is_some}
use Rattle.std.specs.Prelude.{List, [], ◌∷◌, ◌++◌, length, Option, Some, None}
use Rattle.text_grammar.specs.text_core.Choices.{when}
use Rattle.text_grammar.specs.text_core.Readers.{Fault as FaultAt}
use Rattle.text_grammar.specs.text_core.Names.{is_among}
use Rattle.expr_text.specs.Differences.{differences, first_of_all}
use Rattle.while_text.specs.poly_terms.Faults.{Fault, LargeCoefficient, ManyTerms, HighDegree, first_fault}
use Rattle.while_text.specs.model.Limits.{coefficient_limit, token_limit, atom_limit, place_limit, rule_limit, name_limit}
use Rattle.while_text.specs.model.Programs.{Name, Atom, Always, Compare}
use Rattle.while_text.specs.while_model.Moves.{negations_of}
use Rattle.while_text.specs.declared.kind.Kind.{Kind}
use Rattle.while_text.specs.declared.kind.Kind.TheVariants.{NotAscii, Syntax, NumberTooLarge, UnknownName, RepeatedName, Limit}
use Rattle.while_text.specs.declared.kind.WhileKind.{WhileKind}
use Rattle.while_text.specs.declared.kind.WhileKind.TheVariants as limits
use Rattle.while_text.specs.declared.piece.Sort.{Sort}
use Rattle.while_text.specs.declared.piece.Sort.TheVariants as sorts
use Rattle.while_text.specs.declared.piece.Piece.{Piece}
use Rattle.while_text.specs.declared.phase.Phase.{Phase}
use Rattle.while_text.specs.declared.phase.Phase.TheVariants as phases
use Rattle.while_text.specs.Courses.{Course, is_last, plus, negation_count, opens_block, is_in_expression}
use Rattle.while_text.specs.Drafts.{Draft, bytes_of, with_token, term_of, atom_of}

-- The greatest number of open blocks.
abbrev pub depth_limit : ℕ
depth_limit = 64

-- The number of a kind: of two kinds at one position, the one with the lower number is reported.
abbrev pub number_of_limit : WhileKind → ℕ
number_of_limit limits.Name = 6
number_of_limit limits.Tokens = 7
number_of_limit limits.Terms = 8
number_of_limit limits.Degree = 9
number_of_limit limits.Atoms = 10
number_of_limit limits.Variables = 11
number_of_limit limits.Depth = 12
number_of_limit limits.Rules = 13

abbrev pub number_of : Kind → ℕ
number_of NotAscii = 1
number_of Syntax = 2
number_of NumberTooLarge = 3
number_of UnknownName = 4
number_of RepeatedName = 5
number_of (Limit kind) = number_of_limit kind

-- The first of two kinds, or the other one if there is no first.
abbrev pub or_kind : Option Kind → Option Kind → Option Kind
or_kind None other = other
or_kind (Some kind) other = Some kind

-- Whether a token of this sort is a name.
abbrev pub is_name : Sort → Bool
is_name sorts.Name = true
is_name _ = false

-- Whether a token of this sort is a number over the limit.
abbrev pub is_large : Sort → Bool
is_large (sorts.Number n) = nat_lt coefficient_limit n
is_large _ = false

-- Whether a token of this sort belongs to expressions.
abbrev pub is_in_sums : Sort → Bool
is_in_sums sorts.Name = true
is_in_sums (sorts.Number n) = true
is_in_sums sorts.Open = true
is_in_sums sorts.Close = true
is_in_sums sorts.Plus = true
is_in_sums sorts.Minus = true
is_in_sums sorts.Times = true
is_in_sums sorts.Caret = true
is_in_sums _ = false

-- Whether the part of the text that is being read is the inputs.
abbrev pub is_inputs : Phase → Bool
is_inputs phases.Inputs = true
is_inputs _ = false

-- Whether an atom begins with the next token.
abbrev pub begins_atom : Phase → ℕ → Bool
begins_atom phases.Left tokens = tokens == 0
begins_atom _ tokens = false

-- Whether a token of this sort begins a statement.
abbrev pub is_first_word : Sort → Bool
is_first_word sorts.Name = true
is_first_word sorts.Skip = true
is_first_word sorts.While = true
is_first_word sorts.If = true
is_first_word _ = false

abbrev pub begins_statement : Phase → Sort → Bool
begins_statement phases.Statements sort = is_first_word sort
begins_statement _ sort = false

-- The fault of a name: it is no input, occurs twice among the inputs, or is too long.
abbrev pub fault_of_name : List ℕ → Piece → Course → Draft → Option Kind
fault_of_name text p c d =
    or_kind (when (is_name p.sort && not (is_inputs c.phase) && not (is_among (bytes_of text p) d.names)) UnknownName)
    (or_kind (when (is_name p.sort && is_inputs c.phase && is_among (bytes_of text p) d.names) RepeatedName)
    (when (is_name p.sort && nat_lt name_limit (length (bytes_of text p))) (Limit limits.Name)))

-- The fault of a token too many in an expression, or of an atom too many.
abbrev pub fault_of_token : Piece → Course → Draft → Option Kind
fault_of_token p c d =
    or_kind (when ((is_in_expression c.phase && is_in_sums p.sort) && nat_le token_limit c.tokens) (Limit limits.Tokens))
    (when (begins_atom c.phase c.tokens && nat_le atom_limit (length d.test)) (Limit limits.Atoms))

-- The fault of an input, an open block or a statement too many.
abbrev pub fault_of_count : Piece → Course → Draft → Option Kind
fault_of_count p c d =
    or_kind (when (is_inputs c.phase && is_name p.sort && nat_le place_limit (length d.names)) (Limit limits.Variables))
    (or_kind (when (opens_block p.sort && nat_le depth_limit (length d.blocks)) (Limit limits.Depth))
    (when (begins_statement c.phase p.sort && nat_le rule_limit c.rules) (Limit limits.Rules)))

-- The fault that is reported at the first byte of a token; of several kinds it is the one with the least number.
abbrev pub fault_of_first : List ℕ → Piece → Course → Draft → Option Kind
fault_of_first text p c d =
    or_kind (when (is_large p.sort) NumberTooLarge)
    (or_kind (fault_of_name text p c d) (or_kind (fault_of_token p c d) (fault_of_count p c d)))

-- The kind of refusal for a fault of an expanded form.
abbrev pub kind_of : Fault → Kind
kind_of LargeCoefficient = NumberTooLarge
kind_of ManyTerms = Limit limits.Terms
kind_of HighDegree = Limit limits.Degree

abbrev pub kind_in : Option Fault → Option Kind
kind_in None = None
kind_in (Some fault) = Some (kind_of fault)

-- The lesser of two optional faults; none if both are absent.
abbrev pub lesser : Option Fault → Option Fault → Option Fault
lesser None other = other
lesser (Some fault) None = Some fault
lesser (Some LargeCoefficient) (Some other) = Some LargeCoefficient
lesser (Some ManyTerms) (Some LargeCoefficient) = Some LargeCoefficient
lesser (Some ManyTerms) (Some other) = Some ManyTerms
lesser (Some HighDegree) (Some other) = Some other

-- The fault of an atom: that of its first difference that has one.
abbrev pub fault_of_atom : Atom → Option Fault
fault_of_atom Always = None
fault_of_atom (Compare left relation right) = first_of_all (differences left relation right)

-- The least fault of the atoms.
abbrev pub least_of : List Atom → Option Fault
least_of [] = None
least_of (atom ∷ atoms) = lesser (fault_of_atom atom) (least_of atoms)

-- The fault of the forms of an atom: its own form and those of its negations.
abbrev pub fault_of_forms : Atom → Option Fault
fault_of_forms atom = least_of (atom ∷ negations_of atom)

-- The faults of a value and of an atom that end with the token.
abbrev pub fault_of_value : List ℕ → Piece → Course → Draft → Option Kind
fault_of_value text p c d = if is_last p c then kind_in (first_fault (term_of (with_token text p d))) else None

abbrev pub fault_in_atom : List ℕ → Piece → Course → Draft → Option Kind
fault_in_atom text p c d = if is_last p c then kind_in (fault_of_forms (atom_of text p c d)) else None

-- The fault that is reported at the last byte of a token.
abbrev pub fault_of_last_in : Phase → List ℕ → Piece → Course → Draft → Option Kind
fault_of_last_in phases.Value text p c d = fault_of_value text p c d
fault_of_last_in phases.Right text p c d = fault_in_atom text p c d
fault_of_last_in _ text p c d = None

abbrev pub fault_of_last : List ℕ → Piece → Course → Draft → Option Kind
fault_of_last text p c d = if opens_block p.sort then None else fault_of_last_in c.phase text p c d

-- Whether an atom ends with the token.
abbrev pub ends_atom_in : Phase → Piece → Course → Bool
ends_atom_in phases.Right p c = is_last p c
ends_atom_in _ p c = false

abbrev pub ends_atom : Piece → Course → Bool
ends_atom p c = ends_atom_in c.phase p c

-- Whether the negations of the atom that ends with the token exceed the limit of rules.
abbrev pub passes_rules : Piece → Course → Bool
passes_rules p c = ends_atom p c && nat_lt rule_limit (plus c.rules (negation_count c.relation))

-- The fault that is reported at the first byte of the statement: it has too many rules.
abbrev pub fault_of_rules : Piece → Course → Option Kind
fault_of_rules p c = when (passes_rules p c) (Limit limits.Rules)

-- A fault of a kind at a position, if there is a kind.
abbrev pub fault_at : Option Kind → ℕ → Option (FaultAt Kind)
fault_at None at = None
fault_at (Some kind) at = Some (record { kind = kind; at = at })
