-- The limits on what has been read so far, state by state; and the states that show no fault at the next token.
use Rattle.std.proofs.Common.{◌≡◌, ℕ, suc, ◌+◌, ◌≤◌, min, true, false, not, if◌then◌else◌, ◌&&◌, is_some, nat_le, List}
use Rattle.std.proofs.Common.{[], ◌∷◌, length, Option, Some, None}
use Rattle.std.specs.Prelude.{⊤}
use Rattle.expr_text.specs.model.Programs.{Name}
use Rattle.expr_text.specs.model.Limits.{rule_limit, place_limit, variable_limit, atom_limit, token_limit}
use Rattle.expr_text.specs.poly_terms.Faults as polynomials
use Rattle.expr_text.specs.text_core.Names.{is_among, AreDistinct}
use Rattle.expr_text.specs.Pieces as inner
use Rattle.expr_text.specs.Trees.{Sum}
use Rattle.expr_text.specs.Terms.{with_sum, sum_term}
use Rattle.expr_text.specs.GrammarStates as expression
use Rattle.expr_text.specs.Steps as expression_steps
use Rattle.expr_text.specs.Guards.{count_of, relation_of}
use Rattle.expr_text.specs.GuardGrammarStates.{Conjoined, NoAtoms, JointAfter, GuardGrammarState, LeftSide, RightSide, truth_of}
use Rattle.expr_text.specs.StateNames.{names_with_state, with_conjoined, token_count, goes_on_with}
use Rattle.its_text.specs.Pieces.{Piece, In}
use Rattle.its_text.specs.Written.{LeftTerm, RightTerm, Target, Marked, Bare, Section}
use Rattle.its_text.specs.Numbering.{is_com, arity_of, with_right, symbols_of, term_in, left_names, atoms_of_cost}
use Rattle.its_text.specs.Numbering.{arrow_names, rules_of}
use Rattle.its_text.specs.GrammarStates.{Ruling, ArrowRead, Aimed, Headed, GrammarState, Between, Opened, GoalNamed, GoalRead, StartNamed}
use Rattle.its_text.specs.GrammarStates.{StartOpened, StartListed, StartRead, StartClosed, Listing, CommentNamed, AfterRule}
use Rattle.its_text.specs.GrammarStates.{SourceNamed, LeftOpened, LeftRead, LeftParted, SourceClosed, Costing, Arrowed, ComNamed}
use Rattle.its_text.specs.GrammarStates.{ComOpened, TargetNamed, RightOpened, Arguing, TargetClosed, Targeted, GuardMarked}
use Rattle.its_text.specs.GrammarStates.{WordRead}
use Rattle.its_text.specs.GrammarStates.{MarkGuarding, SquareOpened, SquareGuarding}
use Rattle.its_text.specs.Steps.{guard_named}
use Rattle.its_text.specs.StateNames.{symbols_of_arrow, symbols_behind, names_with, headed_names}
use Rattle.its_text.specs.StateFaults as shown
use Rattle.its_text.specs.StateFaults.{is_goal, is_start, is_variables, is_rules, has, repeats, is_word, is_open}
use Rattle.its_text.specs.StateFaults.{are_full}
use Rattle.its_text.specs.StateFaults.{is_operator, is_operating, other_arity, bare_differs, OpenExpression}
use Rattle.its_text.specs.StateFaults.{open_expression_in}
use Rattle.expr_text.specs.Differences.{differences, first_of_all}
use Rattle.its_text.specs.StateFaults.{passes_variables, is_large, ends_expression, is_full, begins}
use Rattle.its_text.specs.Spelling.{times, AreRules, HaveRules, IsShort, AreArgumentsWithin, IsCostWithin}
use Rattle.its_text.specs.Spelling.{AreAtomsWithin, AreRulesWithin, HaveRulesWithin}

-- the next of the pieces
abbrev pub first : List Piece → Option Piece
first [] = None
first (p ∷ ps) = Some p

-- No section occurs twice that may occur once, and the rules are valid and within the limits.
pub record AreDone (ss : List Section) : Type 0 where
  pub goal : times is_goal ss ≤ 1
  pub start : times is_start ss ≤ 1
  pub variables : times is_variables ss ≤ 1
  pub rules : times is_rules ss ≤ 1
  pub named : HaveRules (rules_of ss)
  pub within : HaveRulesWithin (rules_of ss)

-- the rules so far, of the first section of rules, are within the limits
pub record IsRulingKept (r : Ruling) : Type 0 where
  pub sections : AreDone r.sections
  pub once : has is_rules r.sections ≡ false
  pub few : length r.rules ≤ rule_limit
  pub rules : AreRules (symbols_of r.rules) r.rules
  pub within : AreRulesWithin r.rules

-- a ruling is within the limits, and another rule may come
abbrev pub IsOpenRuling : Ruling → Type 0
IsOpenRuling r = IsRulingKept r × (suc (length r.rules) ≤ rule_limit)

-- left arguments differ, and there aren't too many
abbrev pub AreLeft : List Name → Type 0
AreLeft arguments = AreDistinct arguments × (length arguments ≤ place_limit)

-- a left term is within the limits, and has as many arguments as its symbol has places
abbrev pub IsSourceOpen : Ruling → LeftTerm → Type 0
IsSourceOpen r t = IsOpenRuling r × AreLeft t.arguments

abbrev pub IsSourceKept : Ruling → LeftTerm → Type 0
IsSourceKept r t = IsSourceOpen r t × (arity_of (symbols_of_arrow r t) t.name ≡ length t.arguments)

-- The part of a cost that has been read is within the limits.
pub record IsCostingKept (r : Ruling) (t : LeftTerm) (e : expression.GrammarState) : Type 0 where
  pub source : IsSourceKept r t
  pub tokens : token_count e ≤ token_limit
  pub variables : length (names_with_state (left_names t) e) ≤ variable_limit

-- a left term with its arrow, whose cost is within the limits
pub record IsArrowKept (l : ArrowRead) : Type 0 where
  pub source : IsSourceKept l.ruling l.left
  pub cost : IsCostWithin (arrow_names l.left l.cost) l.cost
  pub variables : length (arrow_names l.left l.cost) ≤ variable_limit

abbrev pub IsAimedKept : Aimed → Type 0
IsAimedKept a = IsArrowKept a.led × (is_com a.name ≡ false)

-- a right term within the limits
pub record HasRight (l : ArrowRead) (t : RightTerm) : Type 0 where
  pub led : IsArrowKept l
  pub symbol : is_com t.name ≡ false
  pub few : length t.arguments ≤ place_limit
  pub arguments : AreArgumentsWithin (names_with l t.arguments) t.arguments
  pub variables : length (names_with l t.arguments) ≤ variable_limit

-- a right term has as many arguments as its symbol has places
abbrev pub HasTargetArity : ArrowRead → RightTerm → Type 0
HasTargetArity l t = arity_of (with_right (symbols_behind l) t) t.name ≡ length t.arguments

abbrev pub IsTargetKept : ArrowRead → Target → Type 0
IsTargetKept l (Marked t) = HasRight l t × HasTargetArity l t
IsTargetKept l (Bare t) = HasRight l t

abbrev pub IsHeadedKept : Headed → Type 0
IsHeadedKept h = HasRight h.led (term_in h.target) × HasTargetArity h.led (term_in h.target)

-- 1 if a part of an argument was read, else 0.
abbrev pub begun : expression.GrammarState → ℕ
begun e = min (token_count e) 1

pub record IsArguingKept (a : Aimed) (arguments : List Sum) (e : expression.GrammarState) : Type 0 where
  pub aimed : IsAimedKept a
  pub few : length arguments + begun e ≤ place_limit
  pub earlier : AreArgumentsWithin (names_with a.led arguments) arguments
  pub tokens : token_count e ≤ token_limit
  pub variables : length (names_with_state (names_with a.led arguments) e) ≤ variable_limit

-- The number of atoms so far.
abbrev pub AreConjoined : List Name → Conjoined → Type 0
AreConjoined names NoAtoms = ⊤
AreConjoined names (JointAfter atoms joint) = AreAtomsWithin names atoms

abbrev pub conjoined_count : Conjoined → ℕ
conjoined_count NoAtoms = 0
conjoined_count (JointAfter atoms joint) = count_of atoms

-- The variables that count; the word of the atom that always holds is none.
abbrev pub counted : List Name → Conjoined → expression.GrammarState → Option Piece → List Name
counted names c e next =
    if is_some (truth_of e) && not (is_operating next) then with_conjoined names c else names_with_state
    (with_conjoined names c) e

-- The part of an atom's left side, or of its right side, that has been read is within the limits; the rule's cost
-- counts as this many atoms.
pub record IsLeftKept (others : ℕ) (names : List Name) (c : Conjoined) (e : expression.GrammarState) (next : Option Piece)
    : Type 0 where
  pub atoms : AreConjoined (with_conjoined names c) c
  pub few : (conjoined_count c + others) + begun e ≤ atom_limit
  pub tokens : token_count e ≤ token_limit
  pub variables : length (counted names c e next) ≤ variable_limit

pub record IsRightKept (others : ℕ) (names : List Name) (c : Conjoined) (l : Sum) (e : expression.GrammarState) : Type 0 where
  pub atoms : AreConjoined (with_conjoined names c) c
  pub few : suc (conjoined_count c) + others ≤ atom_limit
  pub left : IsShort l
  pub tokens : token_count e ≤ token_limit
  pub variables : length (names_with_state (with_sum (with_conjoined names c) l) e) ≤ variable_limit

abbrev pub IsGuardKept : ℕ → List Name → GuardGrammarState → Option Piece → Type 0
IsGuardKept others names (LeftSide c e) next = IsLeftKept others names c e next
IsGuardKept others names (RightSide c l sign e) next = IsRightKept others names c l e

-- A rule's guard with its cost is within the limits.
abbrev pub HasGuardKept : Headed → GuardGrammarState → Option Piece → Type 0
HasGuardKept h g next = IsGuardKept (atoms_of_cost h.led.cost) (headed_names h) g next

-- a name after `:|:` begins another rule before a bracket, and else an atom
pub record IsWordKept (h : Headed) (name : Name) (next : Option Piece) : Type 0 where
  pub rule : is_open next ≡ true → suc (suc (length h.led.ruling.rules)) ≤ rule_limit
  pub atom : is_open next ≡ false → HasGuardKept h (guard_named name) next

-- What has been read is within the limits, if these tokens follow.
abbrev pub IsKept : GrammarState → List Piece → Type 0
IsKept (Between ss) ps = AreDone ss
IsKept (Opened ss) ps = AreDone ss × (repeats ss (Some (In inner.Open)) (first ps) ≡ false)
IsKept (GoalNamed ss) ps = AreDone ss × (has is_goal ss ≡ false)
IsKept (GoalRead ss) ps = AreDone ss × (has is_goal ss ≡ false)
IsKept (StartNamed ss) ps = AreDone ss × (has is_start ss ≡ false)
IsKept (StartOpened ss) ps = AreDone ss × (has is_start ss ≡ false)
IsKept (StartListed ss) ps = AreDone ss × (has is_start ss ≡ false)
IsKept (StartRead ss name) ps = AreDone ss × (has is_start ss ≡ false)
IsKept (StartClosed ss name) ps = AreDone ss × (has is_start ss ≡ false)
IsKept (Listing ss names) ps = AreDone ss × (has is_variables ss ≡ false)
IsKept (CommentNamed ss) ps = AreDone ss
IsKept (AfterRule r) ps = IsRulingKept r
IsKept (SourceNamed r name) ps = IsOpenRuling r
IsKept (LeftOpened r name) ps = IsOpenRuling r
IsKept (LeftRead r name a earlier) ps = IsOpenRuling r × AreLeft (a ∷ earlier) × (is_operator (first ps) ≡ false)
IsKept (LeftParted r name a earlier) ps = IsOpenRuling r × AreLeft (a ∷ earlier)
IsKept (SourceClosed r t) ps = IsSourceOpen r t
IsKept (Costing r t e) ps = IsCostingKept r t e
IsKept (Arrowed l) ps = IsArrowKept l
IsKept (ComNamed l) ps = IsArrowKept l
IsKept (ComOpened l) ps = IsArrowKept l
IsKept (TargetNamed a) ps = IsArrowKept a.led × ((is_com a.name && is_open (first ps)) ≡ false)
IsKept (RightOpened a) ps = IsAimedKept a
IsKept (Arguing a arguments e) ps = IsArguingKept a arguments e
IsKept (TargetClosed l t) ps = HasRight l t
IsKept (Targeted h) ps = IsTargetKept h.led h.target
IsKept (GuardMarked h) ps = IsHeadedKept h
IsKept (WordRead h name) ps = IsHeadedKept h × IsWordKept h name (first ps)
IsKept (MarkGuarding h g) ps = IsHeadedKept h × HasGuardKept h g (first ps)
IsKept (SquareOpened h) ps = IsHeadedKept h
IsKept (SquareGuarding h g) ps = IsHeadedKept h × HasGuardKept h g (first ps)

-- a name that must follow as a left argument is new, there is room for it, and no operator follows
abbrev pub IsLeftQuiet : List Name → Option Piece → Option Piece → Type 0
IsLeftQuiet arguments (Some (In (inner.Word name))) behind =
    (is_operator behind ≡ false) × (is_among name arguments ≡ false) × (nat_le place_limit (length arguments) ≡ false)
IsLeftQuiet arguments _ behind = ⊤

-- The next token of an expression exceeds no limit, and neither does a new variable.
abbrev pub IsGoingQuiet : Option OpenExpression → Option Piece → Option Piece → Type 0
IsGoingQuiet (Some g) (Some (In p)) behind =
    goes_on_with g.grammar_state p ≡ true → (passes_variables g p behind ≡ false) ×
    (nat_le token_limit (token_count g.grammar_state) ≡ false)
IsGoingQuiet _ _ behind = ⊤

-- if the next token continues an expression, it is no literal that is too large
abbrev pub IsGoingSmall : Option OpenExpression → Option Piece → Type 0
IsGoingSmall (Some g) (Some (In p)) = goes_on_with g.grammar_state p ≡ true → is_large p ≡ false
IsGoingSmall _ _ = ⊤

-- an argument that has ended can be expanded
abbrev pub IsArgumentExpanded : List Name → Option Sum → Type 0
IsArgumentExpanded names None = ⊤
IsArgumentExpanded names (Some s) = polynomials.first_fault (sum_term (with_sum names s) s) ≡ None

-- an atom that has ended can be expanded
abbrev pub IsRightExpanded : List Name → Sum → inner.Sign → Option Sum → Type 0
IsRightExpanded names l sign None = ⊤
IsRightExpanded names l sign (Some r) =
    first_of_all (differences (sum_term (with_sum names r) l) (relation_of sign) (sum_term (with_sum names r) r)) ≡ None

abbrev pub IsAtomExpanded : List Name → GuardGrammarState → Option Piece → Type 0
IsAtomExpanded names (LeftSide c e) next = ⊤
IsAtomExpanded names (RightSide c l sign e) next =
    ends_expression e next ≡ true → IsRightExpanded (with_sum (with_conjoined names c) l) l sign
    (expression_steps.finish e)

pub record IsGuardQuiet (others : ℕ) (names : List Name) (g : GuardGrammarState) (next behind : Option Piece) : Type 0 where
  pub atom : IsAtomExpanded names g next
  pub few : (is_full others g && begins next) ≡ false
  pub going : IsGoingQuiet (open_expression_in names g) next behind

-- A rule's guard with its cost is quiet.
abbrev pub HasGuardQuiet : Headed → GuardGrammarState → Option Piece → Option Piece → Type 0
HasGuardQuiet h g next behind = IsGuardQuiet (atoms_of_cost h.led.cost) (headed_names h) g next behind

pub record IsCostQuiet (r : Ruling) (t : LeftTerm) (e : expression.GrammarState) (next behind : Option Piece) : Type 0 where
  pub cost : ends_expression e next ≡ true → IsArgumentExpanded (left_names t) (expression_steps.finish e)
  pub going : IsGoingQuiet (shown.open_expression (Costing r t e) next behind) next behind

pub record IsArgumentQuiet (a : Aimed) (arguments : List Sum) (e : expression.GrammarState) (next behind : Option Piece) : Type
    0 where
  pub argument : ends_expression e next ≡ true
      → IsArgumentExpanded (names_with a.led arguments) (expression_steps.finish e)
  pub few : shown.passes_arguments (Arguing a arguments e) next ≡ false
  pub going : IsGoingQuiet (shown.open_expression (Arguing a arguments e) next behind) next behind

-- A state shows no fault at the next token and the one after it, except for the length of a name and the size of a
-- number.
abbrev pub IsQuiet : GrammarState → Option Piece → Option Piece → Type 0
IsQuiet (Between ss) next behind = repeats ss next behind ≡ false
IsQuiet (Opened ss) next behind = ⊤
IsQuiet (GoalNamed ss) next behind = ⊤
IsQuiet (GoalRead ss) next behind = ⊤
IsQuiet (StartNamed ss) next behind = ⊤
IsQuiet (StartOpened ss) next behind = ⊤
IsQuiet (StartListed ss) next behind = ⊤
IsQuiet (StartRead ss name) next behind = ⊤
IsQuiet (StartClosed ss name) next behind = ⊤
IsQuiet (Listing ss names) next behind = ⊤
IsQuiet (CommentNamed ss) next behind = ⊤
IsQuiet (AfterRule r) next behind = (is_word next && are_full r.rules) ≡ false
IsQuiet (SourceNamed r name) next behind = ⊤
IsQuiet (LeftOpened r name) next behind = IsLeftQuiet [] next behind
IsQuiet (LeftRead r name a earlier) next behind = ⊤
IsQuiet (LeftParted r name a earlier) next behind = IsLeftQuiet (a ∷ earlier) next behind
IsQuiet (SourceClosed r t) next behind = other_arity (symbols_of_arrow r t) t.name (length t.arguments) ≡ false
IsQuiet (Costing r t e) next behind = IsCostQuiet r t e next behind
IsQuiet (Arrowed l) next behind = shown.targets_many (Arrowed l) next behind ≡ false
IsQuiet (ComNamed l) next behind = ⊤
IsQuiet (ComOpened l) next behind =
    (shown.targets_again (ComOpened l) next behind ≡ false) × (shown.targets_many (ComOpened l) next behind ≡ false)
IsQuiet (TargetNamed a) next behind = ⊤
IsQuiet (RightOpened a) next behind = IsGoingQuiet (shown.open_expression (RightOpened a) next behind) next behind
IsQuiet (Arguing a arguments e) next behind = IsArgumentQuiet a arguments e next behind
IsQuiet (TargetClosed l t) next behind = other_arity (with_right (symbols_behind l) t) t.name (length t.arguments) ≡ false
IsQuiet (Targeted h) next behind =
    (bare_differs h.led h.target ≡ false) × (shown.too_many_rules (Targeted h) next behind ≡ false)
IsQuiet (GuardMarked h) next behind =
    (shown.too_many_rules (GuardMarked h) next behind ≡ false)
    × IsGoingQuiet (shown.open_expression (GuardMarked h) next behind) next behind
IsQuiet (WordRead h name) next behind =
    (shown.too_many_rules (WordRead h name) next behind ≡ false)
    × IsGoingQuiet (shown.open_expression (WordRead h name) next behind) next behind
IsQuiet (MarkGuarding h g) next behind =
    (shown.too_many_rules (MarkGuarding h g) next behind ≡ false) × HasGuardQuiet h g next behind
IsQuiet (SquareOpened h) next behind = IsGoingQuiet (shown.open_expression (SquareOpened h) next behind) next behind
IsQuiet (SquareGuarding h g) next behind = HasGuardQuiet h g next behind

-- the next piece is within its limits: as a word, or as a literal of the expression that it continues
abbrev pub IsNextSmall : GrammarState → Option Piece → Option Piece → Type 0
IsNextSmall f next behind = (shown.long_name next ≡ false) × IsGoingSmall (shown.open_expression f next behind) next
