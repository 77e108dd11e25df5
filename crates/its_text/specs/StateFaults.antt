-- The faults that a parser state of a program's text shows, at the last token and at the next ones.
use Rattle.std.specs.Prelude.{ℕ, ◌+◌, ◌-◌, Bool, true, false, not, ◌&&◌, ◌||◌, if◌then◌else◌, nat_lt, nat_le, ◌==◌}
use Rattle.std.specs.Prelude.{List}
use Rattle.std.specs.Prelude.{[], ◌∷◌, ◌++◌, length, codes, Option, Some, None}
use Rattle.expr_text.specs.model.Programs.{Name, Symbol}
use Rattle.expr_text.specs.model.Limits.{rule_limit, place_limit, variable_limit, atom_limit, name_limit, token_limit}
use Rattle.expr_text.specs.model.Limits.{coefficient_limit}
use Rattle.expr_text.specs.poly_terms.Faults as polynomials
use Rattle.expr_text.specs.text_core.Names.{is_same, is_among}
use Rattle.expr_text.specs.text_core.Tokens.{Token}
use Rattle.expr_text.specs.text_core.Readers.{Fault}
use Rattle.expr_text.specs.text_core.Faults.{next_at}
use Rattle.expr_text.specs.Pieces as inner
use Rattle.expr_text.specs.Trees.{Sum}
use Rattle.expr_text.specs.Terms as terms
use Rattle.expr_text.specs.GrammarStates as expression
use Rattle.expr_text.specs.Steps as expression_steps
use Rattle.expr_text.specs.Guards.{Atoms, count_of, relation_of}
use Rattle.expr_text.specs.Differences.{differences, first_of_all}
use Rattle.expr_text.specs.GuardGrammarStates as guards
use Rattle.expr_text.specs.GuardGrammarStates.{GuardGrammarState, LeftSide, RightSide, NoAtoms, JointAfter}
use Rattle.expr_text.specs.StateNames.{names_with_state, before_expression, token_count, goes_on_with, operates}
use Rattle.expr_text.specs.StateNames.{begins_expression, truth_worded}
use Rattle.its_text.specs.Pieces.{Piece, In, Disjoining, Strange}
use Rattle.its_text.specs.Written.{Target, Marked, Bare, NoGuard, WrittenRule, Section, Goal, Start, Variables, Rules}
use Rattle.its_text.specs.Written.{Comment}
use Rattle.its_text.specs.Numbering.{is_com, arity_of, with_right, left_names, atoms_of_cost}
use Rattle.its_text.specs.GrammarStates.{ArrowRead, rule_with, GrammarState, Between, AfterRule, LeftOpened, LeftParted, SourceClosed, Costing}
use Rattle.its_text.specs.GrammarStates.{Arrowed, ComOpened, RightOpened, Arguing, TargetClosed, Targeted, GuardMarked, WordRead}
use Rattle.its_text.specs.GrammarStates.{MarkGuarding, SquareOpened, SquareGuarding}
use Rattle.its_text.specs.Steps.{guard_named}
use Rattle.its_text.specs.StateNames.{symbols_of_arrow, symbols_behind, names_with, headed_names}
use Rattle.its_text.specs.Kinds.{TooManyRules, TooManyArguments, TooManyVariables, TooManyAtoms, LongName}
use Rattle.its_text.specs.Kinds.{TooManyTokens, TooManyTerms, HighDegree, Kind, NotAscii, Syntax, RepeatedSection}
use Rattle.its_text.specs.Kinds.{ManyTargets, LeftNotVariable, LeftRepeated, ArityDiffers, NumberTooLarge, Limit}
use Rattle.its_text.specs.Kinds.{Disjunction}

abbrev pub Tokens : Type 0
Tokens = List (Token Piece)

abbrev pub FaultList : Type 0
FaultList = List (Fault Kind)

-- A fault at a position, if a test holds.
abbrev pub fault_if : Bool → Kind → ℕ → FaultList
fault_if test kind at = if test then record { kind = kind; at = at } ∷ [] else []

-- The position of the last byte that has been read.
abbrev pub last_byte : Tokens → ℕ
last_byte [] = 0
last_byte (t ∷ done) = t.upto - 1

-- The next token.
abbrev pub next_piece : Tokens → Option Piece
next_piece [] = None
next_piece (t ∷ rest) = Some t.piece

abbrev pub piece_behind : Tokens → Option Piece
piece_behind [] = None
piece_behind (t ∷ rest) = next_piece rest

-- A name has more bytes than the limit.
abbrev pub long_name : Option Piece → Bool
long_name (Some (In (inner.Word name))) = nat_lt name_limit (length name)
long_name _ = false

-- Whether the section that an opening bracket and a keyword begin occurred before.
abbrev pub is_goal : Section → Bool
is_goal Goal = true
is_goal (Start name) = false
is_goal (Variables names) = false
is_goal (Rules rules) = false
is_goal (Comment bytes) = false

abbrev pub is_start : Section → Bool
is_start Goal = false
is_start (Start name) = true
is_start (Variables names) = false
is_start (Rules rules) = false
is_start (Comment bytes) = false

abbrev pub is_variables : Section → Bool
is_variables Goal = false
is_variables (Start name) = false
is_variables (Variables names) = true
is_variables (Rules rules) = false
is_variables (Comment bytes) = false

abbrev pub is_rules : Section → Bool
is_rules Goal = false
is_rules (Start name) = false
is_rules (Variables names) = false
is_rules (Rules rules) = true
is_rules (Comment bytes) = false

abbrev pub has : (Section → Bool) → List Section → Bool
has test [] = false
has test (s ∷ sections) = test s || has test sections

abbrev pub has_named : List Section → Name → Bool
has_named ss name =
    (is_same name (codes "GOAL") && has is_goal ss) || (is_same name (codes "STARTTERM") && has is_start ss)
    || (is_same name (codes "VAR") && has is_variables ss) || (is_same name (codes "RULES") && has is_rules ss)

abbrev pub repeats : List Section → Option Piece → Option Piece → Bool
repeats ss (Some (In inner.Open)) (Some (In (inner.Word name))) = has_named ss name
repeats ss _ _ = false

-- A rule begins with the next token after as many rules as the limit.
abbrev pub is_word : Option Piece → Bool
is_word (Some (In (inner.Word name))) = true
is_word _ = false

abbrev pub is_open : Option Piece → Bool
is_open (Some (In inner.Open)) = true
is_open _ = false

abbrev pub are_full : List WrittenRule → Bool
are_full rules = nat_le rule_limit (length rules)

-- Whether the atoms so far can end, so that a name after them begins a rule.
abbrev pub can_end : Option Atoms → Bool
can_end None = false
can_end (Some atoms) = true

-- The next token doesn't continue a guard's expression.
abbrev pub ends_expression : expression.GrammarState → Option Piece → Bool
ends_expression e (Some (In p)) = not (goes_on_with e p)
ends_expression e _ = true

abbrev pub too_many_rules : GrammarState → Option Piece → Option Piece → Bool
too_many_rules (AfterRule r) next behind = is_word next && are_full r.rules
too_many_rules (Targeted h) next behind = is_word next && are_full (rule_with h NoGuard ∷ h.led.ruling.rules)
too_many_rules (GuardMarked h) next behind =
    is_word next && is_open behind && are_full (rule_with h NoGuard ∷ h.led.ruling.rules)
too_many_rules (WordRead h name) next behind =
    is_word next && can_end (guards.finish (guard_named name)) && are_full (rule_with h NoGuard ∷ h.led.ruling.rules)
too_many_rules (MarkGuarding h g) next behind =
    is_word next && ends_expression (guards.expression_in g) next && can_end (guards.finish g)
    && are_full (rule_with h NoGuard ∷ h.led.ruling.rules)
too_many_rules _ next behind = false

-- The name of a right term before its bracket is `Com_` and digits.
abbrev pub targets_many : GrammarState → Option Piece → Option Piece → Bool
targets_many (Arrowed l) (Some (In (inner.Word name))) behind =
    is_com name && not (is_same name (codes "Com_1")) && is_open behind
targets_many (ComOpened l) (Some (In (inner.Word name))) behind =
    is_com name && not (is_same name (codes "Com_1")) && is_open behind
targets_many _ _ behind = false

-- The name of a right term within `Com_1(` is `Com_1`.
abbrev pub targets_again : GrammarState → Option Piece → Option Piece → Bool
targets_again (ComOpened l) (Some (In (inner.Word name))) behind = is_same name (codes "Com_1") && is_open behind
targets_again _ _ behind = false

-- The left arguments so far, if another must follow.
abbrev pub left_wanted : GrammarState → Option (List Name)
left_wanted (LeftOpened r name) = Some []
left_wanted (LeftParted r name a earlier) = Some (a ∷ earlier)
left_wanted _ = None

-- The next left argument is a name and more.
abbrev pub is_operator : Option Piece → Bool
is_operator (Some (In inner.Plus)) = true
is_operator (Some (In inner.Minus)) = true
is_operator (Some (In inner.Times)) = true
is_operator (Some (In inner.Caret)) = true
is_operator _ = false

abbrev pub left_of : ℕ → Option (List Name) → Option Piece → Option Piece → FaultList
left_of at (Some arguments) (Some (In (inner.Word name))) behind =
    fault_if (is_operator behind) LeftNotVariable at
    ++ fault_if (is_among name arguments) LeftRepeated at
    ++ fault_if (nat_le place_limit (length arguments)) (Limit TooManyArguments) at
left_of at _ _ behind = []

-- The term that the last bracket closes has another number of arguments than its symbol has places.
abbrev pub other_arity : List Symbol → Name → ℕ → Bool
other_arity symbols name arity = not (arity_of symbols name == arity)

abbrev pub bare_differs : ArrowRead → Target → Bool
bare_differs l (Marked t) = false
bare_differs l (Bare t) = other_arity (with_right (symbols_behind l) t) t.name (length t.arguments)

abbrev pub has_other_arity : GrammarState → Bool
has_other_arity (SourceClosed r t) = other_arity (symbols_of_arrow r t) t.name (length t.arguments)
has_other_arity (TargetClosed l t) = other_arity (with_right (symbols_behind l) t) t.name (length t.arguments)
has_other_arity (Targeted h) = bare_differs h.led h.target
has_other_arity _ = false

-- The expression that the next token can continue: the variables before it, its tokens so far, and whether it is the
-- left side of an atom.
pub record OpenExpression : Type 0 where
  pub names : List Name
  pub grammar_state : expression.GrammarState
  pub leads_atom : Bool

abbrev pub is_left_side : GuardGrammarState → Bool
is_left_side (LeftSide c e) = true
is_left_side (RightSide c l sign e) = false

abbrev pub open_expression_in : List Name → GuardGrammarState → Option OpenExpression
open_expression_in names g =
    Some (record { names = before_expression names g; grammar_state = guards.expression_in g; leads_atom = is_left_side g })

abbrev pub open_expression : GrammarState → Option Piece → Option Piece → Option OpenExpression
open_expression (Costing r t e) next behind = Some (record { names = left_names t; grammar_state = e; leads_atom = false })
open_expression (RightOpened a) next behind =
    Some (record { names = names_with a.led []; grammar_state = expression.beginning; leads_atom = false })
open_expression (Arguing a arguments e) next behind =
    Some (record { names = names_with a.led arguments; grammar_state = e; leads_atom = false })
open_expression (GuardMarked h) next behind =
    if is_word next && is_open behind then None else open_expression_in (headed_names h) guards.no_atoms
open_expression (WordRead h name) next behind = open_expression_in (headed_names h) (guard_named name)
open_expression (MarkGuarding h g) next behind = open_expression_in (headed_names h) g
open_expression (SquareOpened h) next behind = open_expression_in (headed_names h) guards.no_atoms
open_expression (SquareGuarding h g) next behind = open_expression_in (headed_names h) g
open_expression _ next behind = None

-- A literal is over its limit.
abbrev pub is_large : inner.Piece → Bool
is_large (inner.Digits ds) = nat_lt coefficient_limit (terms.number_of ds)
is_large _ = false

-- An operator or a relation follows.
abbrev pub is_operating : Option Piece → Bool
is_operating (Some (In p)) = operates p
is_operating _ = false

-- The word is that of the atom that always holds: an atom begins with it, and no operator or relation follows.
abbrev pub is_truth : OpenExpression → Name → Option Piece → Bool
is_truth g name behind = g.leads_atom && (token_count g.grammar_state == 0) && truth_worded name && not (is_operating behind)

-- A variable is new, after as many as the limit.
abbrev pub passes_variables : OpenExpression → inner.Piece → Option Piece → Bool
passes_variables g (inner.Word name) behind =
    not (is_truth g name behind) && not (is_among name (names_with_state g.names g.grammar_state))
    && nat_le variable_limit (length (names_with_state g.names g.grammar_state))
passes_variables g _ behind = false

-- The faults of the next token of an expression: the literal is too large, or the variable or the token is one too
-- many.
abbrev pub expression_faults : ℕ → OpenExpression → inner.Piece → Option Piece → FaultList
expression_faults at g p behind =
    fault_if (is_large p) NumberTooLarge at
    ++ fault_if (passes_variables g p behind) (Limit TooManyVariables) at
    ++ fault_if (nat_le token_limit (token_count g.grammar_state)) (Limit TooManyTokens) at

abbrev pub token_faults : ℕ → Option OpenExpression → Option Piece → Option Piece → FaultList
token_faults at (Some g) (Some (In p)) behind = if goes_on_with g.grammar_state p then expression_faults at g p behind else []
token_faults at _ _ behind = []

-- An expression begins with the next token.
abbrev pub begins : Option Piece → Bool
begins (Some (In p)) = begins_expression p
begins _ = false

-- An argument begins with the next token after as many arguments as the limit.
abbrev pub passes_arguments : GrammarState → Option Piece → Bool
passes_arguments (Arguing a arguments e) next =
    (token_count e == 0) && nat_le place_limit (length arguments) && begins next
passes_arguments _ next = false

-- An atom begins with the next token after as many atoms as the limit; the rule's cost counts as this many others.
abbrev pub is_full : ℕ → GuardGrammarState → Bool
is_full others (LeftSide NoAtoms e) = false
is_full others (LeftSide (JointAfter atoms joint) e) =
    (token_count e == 0) && nat_le atom_limit (count_of atoms + others)
is_full others (RightSide c l sign e) = false

abbrev pub another_atom : GrammarState → Option Piece → Bool
another_atom (MarkGuarding h g) next = is_full (atoms_of_cost h.led.cost) g && begins next
another_atom (SquareGuarding h g) next = is_full (atoms_of_cost h.led.cost) g && begins next
another_atom _ next = false

-- The refusal for the fault that prevents the expansion of an expression.
abbrev pub expansion_kind : polynomials.Fault → Kind
expansion_kind polynomials.LargeCoefficient = NumberTooLarge
expansion_kind polynomials.ManyTerms = Limit TooManyTerms
expansion_kind polynomials.HighDegree = Limit HighDegree

abbrev pub expansion_faults : ℕ → Option polynomials.Fault → FaultList
expansion_faults at None = []
expansion_faults at (Some fault) = record { kind = expansion_kind fault; at = at } ∷ []

-- An argument or a cost has ended, and can't be expanded.
abbrev pub argument_faults : ℕ → List Name → Option Sum → FaultList
argument_faults at names None = []
argument_faults at names (Some s) =
    expansion_faults at (polynomials.first_fault (terms.sum_term (terms.with_sum names s) s))

-- An atom has ended, and its difference can't be expanded.
abbrev pub difference_faults : ℕ → List Name → Sum → inner.Sign → Sum → FaultList
difference_faults at names l sign r =
    expansion_faults at (first_of_all (differences (terms.sum_term names l) (relation_of sign)
    (terms.sum_term names r)))

abbrev pub right_side_faults : ℕ → List Name → Sum → inner.Sign → Option Sum → FaultList
right_side_faults at names l sign None = []
right_side_faults at names l sign (Some r) = difference_faults at (terms.with_sum names r) l sign r

abbrev pub atom_faults : ℕ → List Name → GuardGrammarState → Option Piece → FaultList
atom_faults at names (LeftSide c e) next = []
atom_faults at names (RightSide c l sign e) next =
    if ends_expression e next then right_side_faults at (before_expression names (RightSide c l sign e)) l sign
    (expression_steps.finish e) else []

-- The fault of a cost, an argument or an atom that has ended and can't be expanded.
abbrev pub ended_faults : ℕ → GrammarState → Option Piece → FaultList
ended_faults at (Costing r t e) next =
    if ends_expression e next then argument_faults at (left_names t) (expression_steps.finish e) else []
ended_faults at (Arguing a arguments e) next =
    if ends_expression e next then argument_faults at (names_with a.led arguments) (expression_steps.finish e) else []
ended_faults at (MarkGuarding h g) next = atom_faults at (headed_names h) g next
ended_faults at (SquareGuarding h g) next = atom_faults at (headed_names h) g next
ended_faults at _ next = []

-- Between sections, a section begins that occurred before.
abbrev pub repeats_at : GrammarState → Option Piece → Option Piece → Bool
repeats_at (Between ss) next behind = repeats ss next behind
repeats_at _ next behind = false

-- The faults that a state shows at the next token, given the one after it.
abbrev pub next_faults : ℕ → GrammarState → Option Piece → Option Piece → FaultList
next_faults at f next behind =
    fault_if (targets_again f next behind) Syntax at
    ++ fault_if (repeats_at f next behind) RepeatedSection at
    ++ fault_if (targets_many f next behind) ManyTargets at
    ++ left_of at (left_wanted f) next behind
    ++ fault_if (too_many_rules f next behind) (Limit TooManyRules) at
    ++ fault_if (passes_arguments f next) (Limit TooManyArguments) at
    ++ fault_if (another_atom f next) (Limit TooManyAtoms) at
    ++ fault_if (long_name next) (Limit LongName) at
    ++ token_faults at (open_expression f next behind) next behind

-- The faults that a state shows at the last byte read.
abbrev pub last_faults : ℕ → GrammarState → Option Piece → FaultList
last_faults at f next = fault_if (has_other_arity f) ArityDiffers at ++ ended_faults at f next

-- The faults that a state shows.
abbrev pub faults_of_state : ℕ → Tokens → GrammarState → Tokens → FaultList
faults_of_state n done f rest =
    last_faults (last_byte done) f (next_piece rest)
    ++ next_faults (next_at n rest) f (next_piece rest) (piece_behind rest)

-- The token is no name, where a left argument must follow.
abbrev pub is_no_name : inner.Piece → Bool
is_no_name (inner.Digits ds) = true
is_no_name inner.Open = true
is_no_name inner.Minus = true
is_no_name _ = false

abbrev pub left_break_kind : Option (List Name) → inner.Piece → Kind
left_break_kind None p = Syntax
left_break_kind (Some arguments) p = if is_no_name p then LeftNotVariable else Syntax

-- The kind of refusal if a text breaks off at the next token.
abbrev pub break_kind_at : GrammarState → Option Piece → Kind
break_kind_at f (Some (In p)) = left_break_kind (left_wanted f) p
break_kind_at f (Some Disjoining) = Disjunction
break_kind_at f (Some Strange) = NotAscii
break_kind_at f _ = Syntax

abbrev pub break_kind : GrammarState → Tokens → Kind
break_kind f rest = break_kind_at f (next_piece rest)
