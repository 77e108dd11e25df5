-- The tests that the code makes before it reports a fault.
use Rattle.std.specs.Prelude.{ℕ, suc, ◌+◌, Bool, true, false, ◌&&◌, ◌||◌, ◌==◌, if◌then◌else◌, not, IsTrue, ⊤, nat_lt}
use Rattle.std.specs.Prelude.{nat_le, is_some, [], ◌++◌, length, codes, Option, Some, None, option_map}
use Rattle.model.specs.Programs.{Name}
use Rattle.std.specs.List.{list_all}
use Rattle.std.specs.Char.{is_ascii_digit}
use Rattle.model.specs.Limits.{name_limit, place_limit, rule_limit, variable_limit, token_limit, coefficient_limit}
use Rattle.model.specs.Limits.{atom_limit}
use Rattle.poly_terms.specs.Views.{term_of}
use Rattle.its_model.specs.Valid.{cost_atoms}
use Rattle.its_text.specs.expr_text.Pieces as inner
use Rattle.its_text.specs.expr_text.Terms.{number_of}
use Rattle.its_text.specs.expr_text.TermGrammarStates.{goes_on_from}
use Rattle.expr_reader.specs.Views.{grammar_state_of}
use Rattle.expr_reader.specs.declared.expression.Expression.{Expression}
use Rattle.text_core.specs.Names.{is_same, is_among}
use Rattle.expr_reader.specs.Variables.{names_in}
use Rattle.expr_reader.specs.GuardParts.{is_wanting, is_read, names_truth}
use Rattle.expr_reader.specs.GuardRepresentation.{is_operating}
use Rattle.expr_reader.specs.declared.guard.GuardReader.{GuardReader}
use Rattle.its_text.specs.Pieces.{Piece, In, Disjoining, Strange}
use Rattle.its_text.specs.Numbering.{is_com}
use Rattle.its_text.specs.Kinds.{Kind, NotAscii, Syntax, RepeatedSection, ManyTargets, LeftNotVariable, LeftRepeated}
use Rattle.its_text.specs.Kinds.{Disjunction, NumberTooLarge, Limit, TooManyRules, TooManyArguments, TooManyVariables}
use Rattle.its_text.specs.Kinds.{TooManyTokens, TooManyAtoms, LongName}
use Rattle.its_text.specs.StateFaults.{FaultList, fault_if, long_name, is_word, is_open, begins, is_operator}
use Rattle.its_text.specs.StateFaults.{is_no_name}
use Rattle.its_reader.specs.Tests as tests
use Rattle.its_reader.specs.declared.draft.Sections.{Sections}
use Rattle.its_reader.specs.declared.draft.RuleDraft.{RuleDraft}
use Rattle.its_reader.specs.declared.draft.Draft.{Draft}
use Rattle.its_reader.specs.declared.parser_state.SourceState.{SourceState}
use Rattle.its_reader.specs.declared.parser_state.SourceState.TheVariants as lefts
use Rattle.its_reader.specs.declared.parser_state.CostState.{CostState}
use Rattle.its_reader.specs.declared.parser_state.CostState.TheVariants as costs
use Rattle.its_reader.specs.declared.parser_state.TargetState.{TargetState}
use Rattle.its_reader.specs.declared.parser_state.TargetState.TheVariants as rights
use Rattle.its_reader.specs.declared.parser_state.GuardOpening.{GuardOpening}
use Rattle.its_reader.specs.declared.parser_state.GuardOpening.TheVariants as openings
use Rattle.its_reader.specs.declared.parser_state.TailState.{TailState}
use Rattle.its_reader.specs.declared.parser_state.TailState.TheVariants as tails
use Rattle.its_reader.specs.declared.parser_state.ParserState.{ParserState}
use Rattle.its_reader.specs.declared.parser_state.ParserState.TheVariants as places
use Rattle.its_reader.specs.declared.parser_state.SectionState.{SectionState}
use Rattle.its_reader.specs.declared.parser_state.SectionState.TheVariants as sections

-- a name has more bytes than the limit allows
abbrev pub is_long : Option Name → Bool
is_long None = false
is_long (Some name) = nat_lt name_limit (length name)

-- one of the sections so far begins with this word
abbrev pub has_word : Sections → Name → Bool
has_word s name =
    (is_same name (codes "GOAL") && s.goal) || (is_same name (codes "STARTTERM") && is_some s.start)
    || (is_same name (codes "VAR") && s.variables) || (is_same name (codes "RULES") && s.rules)

abbrev pub has_worded : Sections → Option Name → Bool
has_worded s None = false
has_worded s (Some name) = has_word s name

-- a section begins although there is one of its kind already
abbrev pub repeats_in : SectionState → Sections → Option Piece → Option Piece → Bool
repeats_in sections.Between s next behind = tests.is_open_bracket_next next && has_worded s (tests.word_of behind)
repeats_in _ s next behind = false

-- a left argument must follow
abbrev pub wants_argument : SourceState → Bool
wants_argument lefts.LeftOpened = true
wants_argument lefts.LeftParted = true
wants_argument _ = false

abbrev pub wants_left : ParserState → Bool
wants_left (places.InLeft state) = wants_argument state
wants_left _ = false

-- the kind of refusal for a text that breaks off, depending on whether a left argument is expected
abbrev pub break_kind_in : Bool → Piece → Kind
break_kind_in wanted (In p) = if wanted && is_no_name p then LeftNotVariable else Syntax
break_kind_in wanted Disjoining = Disjunction
break_kind_in wanted Strange = NotAscii
break_kind_in wanted _ = Syntax

-- a rule must follow
abbrev pub is_after_rule : SourceState → Bool
is_after_rule lefts.AfterRule = true
is_after_rule _ = false

-- the faults of a name that is a left argument
abbrev pub argument_name_faults : RuleDraft → ℕ → Name → Option Piece → FaultList
argument_name_faults r at name behind =
    fault_if (is_operator behind) LeftNotVariable at
    ++ fault_if (is_among name (names_in r.variables)) LeftRepeated at
    ++ fault_if (nat_le place_limit (length (names_in r.variables))) (Limit TooManyArguments) at

abbrev pub left_argument_name_faults : RuleDraft → ℕ → Option Name → Option Piece → FaultList
left_argument_name_faults r at None behind = []
left_argument_name_faults r at (Some name) behind = argument_name_faults r at name behind

abbrev pub wanted_faults : Bool → RuleDraft → ℕ → Option Piece → Option Piece → FaultList
wanted_faults true r at next behind = left_argument_name_faults r at (tests.word_of next) behind
wanted_faults false r at next behind = []

-- the faults of the next token of a left term
abbrev pub left_faults : SourceState → Draft → ℕ → Option Piece → Option Piece → FaultList
left_faults state d at next behind =
    fault_if (is_after_rule state && (is_word next && nat_le rule_limit (length d.rules.items))) (Limit TooManyRules) at
    ++ wanted_faults (wants_argument state) d.rule at next behind
    ++ fault_if (long_name next) (Limit LongName) at

-- a literal consists of digits, and is over the limit on coefficients
abbrev pub is_large_row : inner.Piece → Bool
is_large_row (inner.Digits ds) = list_all is_ascii_digit ds && nat_lt coefficient_limit (number_of ds)
is_large_row _ = false

-- a name other than the atom that always holds is new although there are as many variables as the limit allows
abbrev pub passes : Bool → RuleDraft → inner.Piece → Bool
passes truth r (inner.Word name) = not truth && not (is_among name (names_in r.variables)) && nat_le variable_limit
    (length (names_in r.variables))
passes truth r _ = false

-- the faults of a piece that continues an expression
abbrev pub piece_faults : RuleDraft → ℕ → Bool → ℕ → inner.Piece → FaultList
piece_faults r tokens truth at p =
    fault_if (is_large_row p) NumberTooLarge at
    ++ fault_if (passes truth r p) (Limit TooManyVariables) at
    ++ fault_if (nat_le token_limit tokens) (Limit TooManyTokens) at

abbrev pub step_faults : RuleDraft → Expression → Bool → ℕ → Option inner.Piece → FaultList
step_faults r e truth at None = []
step_faults r e truth at (Some p) = if goes_on_from (grammar_state_of e).outer
    (grammar_state_of e).operand p then piece_faults r e.tokens truth at p else []

-- a literal consists of digits
abbrev pub IsDigital : Option Piece → Type 0
IsDigital (Some (In (inner.Digits ds))) = IsTrue (list_all is_ascii_digit ds)
IsDigital _ = ⊤

-- the target's name must follow: after the arrow, or within `Com_1(`
abbrev pub wants_target_name : TargetState → Bool
wants_target_name rights.Arrowed = true
wants_target_name rights.ComOpened = true
wants_target_name _ = false

abbrev pub is_within : TargetState → Bool
is_within rights.ComOpened = true
is_within _ = false

-- an argument is being read, and an argument can begin or go on
abbrev pub is_in_argument : TargetState → Bool
is_in_argument (rights.Arguing w) = true
is_in_argument _ = false

abbrev pub can_read_argument : TargetState → Bool
can_read_argument (rights.RightOpened w) = true
can_read_argument (rights.Arguing w) = true
can_read_argument _ = false

-- a name is `Com_1`, or `Com_` and other digits
abbrev pub is_one_named : Option Name → Bool
is_one_named None = false
is_one_named (Some name) = is_same name (codes "Com_1")

abbrev pub is_many_named : Option Name → Bool
is_many_named None = false
is_many_named (Some name) = is_com name && not (is_same name (codes "Com_1"))

-- the next piece is a name of this form
abbrev pub names_one : Option Piece → Bool
names_one next = is_one_named (tests.word_of next)

abbrev pub names_many : Option Piece → Bool
names_many next = is_many_named (tests.word_of next)

-- an argument begins with the next piece although there are as many as the limit allows
abbrev pub begins_full : RuleDraft → Option Piece → Bool
begins_full r next = (r.expression.tokens == 0) && nat_le place_limit (length r.updates.items) && begins next

abbrev pub going_if : Bool → RuleDraft → ℕ → Option Piece → FaultList
going_if true r at next = step_faults r r.expression false at (tests.inner_next next)
going_if false r at next = []

-- a cost is being read
abbrev pub is_costing : CostState → Bool
is_costing costs.Costing = true
is_costing _ = false

-- the faults of the next token within the braces of a cost
abbrev pub cost_faults : CostState → RuleDraft → ℕ → Option Piece → FaultList
cost_faults state r at next = fault_if (long_name next) (Limit LongName) at ++ going_if (is_costing state) r at next

-- the faults of the next token of a right term
abbrev pub right_faults : TargetState → RuleDraft → ℕ → Option Piece → Option Piece → FaultList
right_faults state r at next behind =
    fault_if (is_within state && (names_one next && is_open behind)) Syntax at
    ++ fault_if (wants_target_name state && (names_many next && is_open behind)) ManyTargets at
    ++ fault_if (is_in_argument state && begins_full r next) (Limit TooManyArguments) at
    ++ fault_if (long_name next) (Limit LongName) at
    ++ going_if (can_read_argument state) r at next

-- the fault of a rule that begins although there are as many as the limit allows, with the one being read
abbrev pub rule_faults : Draft → ℕ → Option Piece → FaultList
rule_faults d at next =
    fault_if (is_word next && nat_le rule_limit (suc (length d.rules.items))) (Limit TooManyRules) at

-- the faults of a next token that begins a rule: a rule too many, and a name that is too long
abbrev pub next_rule_faults : Draft → ℕ → Option Piece → FaultList
next_rule_faults d at next = rule_faults d at next ++ fault_if (long_name next) (Limit LongName) at

-- the next piece is the word of the atom that always holds
abbrev pub truth_in : GuardReader → Option inner.Piece → Option inner.Piece → Bool
truth_in r None behind = false
truth_in r (Some p) behind = is_wanting r.state && names_truth p && not (is_operating behind)

-- the faults of the next token of an atom
abbrev pub atom_faults : RuleDraft → ℕ → Option Piece → Option Piece → FaultList
atom_faults r at next behind =
    fault_if (long_name next) (Limit LongName) at
    ++ step_faults r r.guard.expression (truth_in r.guard (tests.inner_next next) (tests.inner_next behind)) at
    (tests.inner_next next)

abbrev pub mark_faults : Bool → Draft → ℕ → Option Piece → Option Piece → FaultList
mark_faults true d at next behind = next_rule_faults d at next
mark_faults false d at next behind = atom_faults d.rule at next behind

-- there are as many atoms as the limit allows; a cost counts as one
abbrev pub atoms_fill : RuleDraft → Bool
atoms_fill r = nat_le atom_limit (length r.guard.atoms.items + cost_atoms (option_map term_of r.cost))

-- an atom begins although there are as many as the limit allows
abbrev pub atoms_full : RuleDraft → Option Piece → Bool
atoms_full r next = is_wanting r.guard.state && atoms_fill r && begins next

abbrev pub another_atom_faults : RuleDraft → ℕ → Option Piece → Option Piece → FaultList
another_atom_faults r at next behind = fault_if (atoms_full r next) (Limit TooManyAtoms) at
    ++ atom_faults r at next behind

-- the faults after atoms that have ended
abbrev pub behind_atoms_faults : GuardOpening → Draft → ℕ → Option Piece → FaultList
behind_atoms_faults openings.Mark d at next = next_rule_faults d at next
behind_atoms_faults openings.Square d at next = fault_if (long_name next) (Limit LongName) at

abbrev pub guard_faults : Bool → GuardOpening → Draft → ℕ → Option Piece → Option Piece → FaultList
guard_faults true opening d at next behind = behind_atoms_faults opening d at next
guard_faults false opening d at next behind = another_atom_faults d.rule at next behind

-- the faults of the next token after a target
abbrev pub tail_faults : TailState → Draft → ℕ → Option Piece → Option Piece → FaultList
tail_faults tails.Targeted d at next behind = next_rule_faults d at next
tail_faults tails.GuardMarked d at next behind = mark_faults (is_word next && is_open behind) d at next behind
tail_faults tails.SquareOpened d at next behind = atom_faults d.rule at next behind
tail_faults (tails.Guarding opening) d at next behind =
    guard_faults (is_read d.rule.guard.state) opening d at next behind

-- the faults of the next token
abbrev pub state_faults : ParserState → Draft → ℕ → Option Piece → Option Piece → FaultList
state_faults (places.InSections state) d at next behind =
    fault_if (repeats_in state d.sections next behind) RepeatedSection at
    ++ fault_if (long_name next) (Limit LongName) at
state_faults (places.InLeft state) d at next behind = left_faults state d at next behind
state_faults (places.InCost state) d at next behind = cost_faults state d.rule at next
state_faults (places.InRight state) d at next behind = right_faults state d.rule at next behind
state_faults (places.InTail state) d at next behind = tail_faults state d at next behind

-- a state between sections
abbrev pub is_between : ParserState → Bool
is_between (places.InSections sections.Between) = true
is_between _ = false
