-- The steps of parsing a program's text.
use Rattle.std.specs.Prelude.{List, [], ◌∷◌, codes, if◌then◌else◌, Option, Some, None}
use Rattle.expr_text.specs.model.Programs.{Name}
use Rattle.expr_text.specs.text_core.Names.{is_same}
use Rattle.expr_text.specs.text_core.Choices.{when}
use Rattle.expr_text.specs.Pieces as inner
use Rattle.expr_text.specs.Trees.{Sum, Named}
use Rattle.expr_text.specs.GrammarStates as expression
use Rattle.expr_text.specs.Steps as expression_steps
use Rattle.expr_text.specs.Guards.{Atoms}
use Rattle.expr_text.specs.GuardGrammarStates as guards
use Rattle.its_text.specs.Pieces.{Piece, In, Comma, Arrow, CostOpen, CostClose, GuardMark, SquareOpen, SquareClose}
use Rattle.its_text.specs.Pieces.{Remark}
use Rattle.its_text.specs.Written.{LeftTerm, RightTerm, Target, Marked, Bare, NoGuard, BehindMark, InSquares, Section}
use Rattle.its_text.specs.Written.{Goal, Start, Variables, Comment}
use Rattle.its_text.specs.GrammarStates.{Ruling, ArrowRead, Wrap, InCom, Alone, Aimed, Headed, GrammarState, Between, Opened, GoalNamed}
use Rattle.its_text.specs.GrammarStates.{GoalRead, StartNamed, StartOpened, StartListed, StartRead, StartClosed, Listing}
use Rattle.its_text.specs.GrammarStates.{CommentNamed, AfterRule, SourceNamed, LeftOpened, LeftRead, LeftParted, SourceClosed, Costing}
use Rattle.its_text.specs.GrammarStates.{Arrowed, ComNamed, ComOpened, TargetNamed, RightOpened, Arguing, TargetClosed, Targeted}
use Rattle.its_text.specs.GrammarStates.{GuardMarked, WordRead, MarkGuarding, SquareOpened, SquareGuarding, ruling_with}
use Rattle.its_text.specs.GrammarStates.{section_of}

-- The state after the keyword of a section.
abbrev pub section_named : List Section → Name → Option GrammarState
section_named ss name =
    if is_same name (codes "GOAL") then Some (GoalNamed ss)
    else if is_same name (codes "STARTTERM") then Some (StartNamed ss)
    else if is_same name (codes "VAR") then Some (Listing ss [])
    else if is_same name (codes "RULES") then Some (AfterRule (record { sections = ss; rules = [] }))
    else if is_same name (codes "COMMENT") then Some (CommentNamed ss)
    else None

-- The state after the end of a left term.
abbrev pub left_closed : Ruling → Name → List Name → GrammarState
left_closed r name arguments = SourceClosed r (record { name = name; arguments = arguments })

-- The state after an arrow that follows a left term, with or without a cost.
abbrev pub behind_left : Ruling → LeftTerm → Option Sum → GrammarState
behind_left r t cost = Arrowed (record { ruling = r; left = t; cost = cost })

-- The state after a token within a cost, if the cost can continue.
abbrev pub cost_step : Ruling → LeftTerm → Option expression.GrammarState → Option GrammarState
cost_step r t None = None
cost_step r t (Some more) = Some (Costing r t more)

-- The state after the end of a cost, if it can end.
abbrev pub cost_ended : Ruling → LeftTerm → Option Sum → Option GrammarState
cost_ended r t None = None
cost_ended r t (Some c) = Some (behind_left r t (Some c))

-- The state after a right term's name, inside `Com_1(..)` or alone.
abbrev pub behind_target_name : ArrowRead → Wrap → Name → GrammarState
behind_target_name l wrap name = TargetNamed (record { led = l; wrap = wrap; name = name })

-- The state after a name that follows an arrow: `Com_1`, or the name of a term.
abbrev pub behind_arrow : ArrowRead → Name → GrammarState
behind_arrow l name = if is_same name (codes "Com_1") then ComNamed l else behind_target_name l Alone name

-- The state after a rule's target.
abbrev pub behind_target : ArrowRead → Target → GrammarState
behind_target l target = Targeted (record { led = l; target = target })

-- The state after the end of a right term, inside `Com_1(..)` or alone.
abbrev pub shut_by : ArrowRead → Wrap → RightTerm → GrammarState
shut_by l InCom t = TargetClosed l t
shut_by l Alone t = behind_target l (Bare t)

abbrev pub right_closed : Aimed → List Sum → GrammarState
right_closed a arguments = shut_by a.led a.wrap (record { name = a.name; arguments = arguments })

-- The state after a token that ends a rule: the name of the next one, or the end of the section.
abbrev pub behind_rule : Ruling → inner.Piece → Option GrammarState
behind_rule r (inner.Word name) = Some (SourceNamed r name)
behind_rule r inner.Close = Some (Between (section_of r))
behind_rule r _ = None

-- The state after the end of an argument, if it can end, before a comma or the closing bracket.
abbrev pub behind_comma : Aimed → List Sum → Option Sum → Option GrammarState
behind_comma a arguments None = None
behind_comma a arguments (Some s) = Some (Arguing a (s ∷ arguments) expression.beginning)

abbrev pub behind_argument : Aimed → List Sum → Option Sum → inner.Piece → Option GrammarState
behind_argument a arguments (Some s) inner.Close = Some (right_closed a (s ∷ arguments))
behind_argument a arguments _ _ = None

-- The state after a token within an argument: the argument continues if it can, else it ends.
abbrev pub argument_step : Aimed → List Sum → expression.GrammarState → Option expression.GrammarState → inner.Piece → Option GrammarState
argument_step a arguments e (Some more) p = Some (Arguing a arguments more)
argument_step a arguments e None p = behind_argument a arguments (expression_steps.finish e) p

-- The state after atoms that end, if they can, before a token that follows a rule.
abbrev pub guard_ended : Headed → Option Atoms → inner.Piece → Option GrammarState
guard_ended h None p = None
guard_ended h (Some atoms) p = behind_rule (ruling_with h (BehindMark (Some atoms))) p

-- The state after a token within atoms after `:|:`: they continue if they can, else they end.
abbrev pub mark_guard_step : Headed → guards.GuardGrammarState → Option guards.GuardGrammarState → inner.Piece → Option GrammarState
mark_guard_step h g (Some more) p = Some (MarkGuarding h more)
mark_guard_step h g None p = guard_ended h (guards.finish g) p

-- The state after atoms in square brackets that continue, if they can.
abbrev pub square_guard_step : Headed → Option guards.GuardGrammarState → Option GrammarState
square_guard_step h None = None
square_guard_step h (Some g) = Some (SquareGuarding h g)

-- The state after the end of atoms in square brackets, if they can end.
abbrev pub square_ended : Headed → Option Atoms → Option GrammarState
square_ended h None = None
square_ended h (Some atoms) = Some (AfterRule (ruling_with h (InSquares (Some atoms))))

-- A guard that begins with a name.
abbrev pub guard_named : Name → guards.GuardGrammarState
guard_named name = guards.LeftSide guards.NoAtoms (expression_steps.read [] expression.empty_level (Named name))

-- The state after a token that follows `:|:`: a name, which begins a rule or an atom; the end of the section; or an
-- atom.
abbrev pub behind_mark : Headed → inner.Piece → Option GrammarState
behind_mark h (inner.Word name) = Some (WordRead h name)
behind_mark h inner.Close = Some (Between (section_of (ruling_with h (BehindMark None))))
behind_mark h p = mark_guard_step h guards.no_atoms (guards.step guards.no_atoms p) p

-- The state after a token that follows a name after `:|:`: before a bracket the name begins the next rule, else an
-- atom.
abbrev pub behind_word : Headed → Name → inner.Piece → Option GrammarState
behind_word h name inner.Open = Some (LeftOpened (ruling_with h (BehindMark None)) name)
behind_word h name p = mark_guard_step h (guard_named name) (guards.step (guard_named name) p) p

-- The state after a token that follows the bracket of a right term: its closing bracket, or an argument.
abbrev pub behind_open : Aimed → inner.Piece → Option GrammarState
behind_open a inner.Close = Some (right_closed a [])
behind_open a p = argument_step a [] expression.beginning (expression_steps.step expression.beginning p) p

-- The state after a token.
abbrev pub step : GrammarState → Piece → Option GrammarState
step (Between ss) (In inner.Open) = Some (Opened ss)
step (Opened ss) (In (inner.Word name)) = section_named ss name
step (GoalNamed ss) (In (inner.Word name)) = when (is_same name (codes "COMPLEXITY")) (GoalRead ss)
step (GoalRead ss) (In inner.Close) = Some (Between (Goal ∷ ss))
step (StartNamed ss) (In inner.Open) = Some (StartOpened ss)
step (StartOpened ss) (In (inner.Word name)) = when (is_same name (codes "FUNCTIONSYMBOLS")) (StartListed ss)
step (StartListed ss) (In (inner.Word name)) = Some (StartRead ss name)
step (StartRead ss name) (In inner.Close) = Some (StartClosed ss name)
step (StartClosed ss name) (In inner.Close) = Some (Between (Start name ∷ ss))
step (Listing ss names) (In (inner.Word name)) = Some (Listing ss (name ∷ names))
step (Listing ss names) (In inner.Close) = Some (Between (Variables names ∷ ss))
step (CommentNamed ss) (Remark bytes) = Some (Between (Comment bytes ∷ ss))
step (AfterRule r) (In p) = behind_rule r p
step (SourceNamed r name) (In inner.Open) = Some (LeftOpened r name)
step (LeftOpened r name) (In (inner.Word a)) = Some (LeftRead r name a [])
step (LeftOpened r name) (In inner.Close) = Some (left_closed r name [])
step (LeftRead r name a earlier) Comma = Some (LeftParted r name a earlier)
step (LeftRead r name a earlier) (In inner.Close) = Some (left_closed r name (a ∷ earlier))
step (LeftParted r name a earlier) (In (inner.Word b)) = Some (LeftRead r name b (a ∷ earlier))
step (SourceClosed r t) Arrow = Some (behind_left r t None)
step (SourceClosed r t) CostOpen = Some (Costing r t expression.beginning)
step (Costing r t e) (In p) = cost_step r t (expression_steps.step e p)
step (Costing r t e) CostClose = cost_ended r t (expression_steps.finish e)
step (Arrowed l) (In (inner.Word name)) = Some (behind_arrow l name)
step (ComNamed l) (In inner.Open) = Some (ComOpened l)
step (ComOpened l) (In (inner.Word name)) = Some (behind_target_name l InCom name)
step (TargetNamed a) (In inner.Open) = Some (RightOpened a)
step (RightOpened a) (In p) = behind_open a p
step (Arguing a arguments e) (In p) = argument_step a arguments e (expression_steps.step e p) p
step (Arguing a arguments e) Comma = behind_comma a arguments (expression_steps.finish e)
step (TargetClosed l t) (In inner.Close) = Some (behind_target l (Marked t))
step (Targeted h) (In p) = behind_rule (ruling_with h NoGuard) p
step (Targeted h) GuardMark = Some (GuardMarked h)
step (Targeted h) SquareOpen = Some (SquareOpened h)
step (GuardMarked h) (In p) = behind_mark h p
step (WordRead h name) (In p) = behind_word h name p
step (MarkGuarding h g) (In p) = mark_guard_step h g (guards.step g p) p
step (SquareOpened h) (In p) = square_guard_step h (guards.step guards.no_atoms p)
step (SquareOpened h) SquareClose = Some (AfterRule (ruling_with h (InSquares None)))
step (SquareGuarding h g) (In p) = square_guard_step h (guards.step g p)
step (SquareGuarding h g) SquareClose = square_ended h (guards.finish g)
step f p = None

-- The state before the first token.
abbrev pub beginning : GrammarState
beginning = Between []

-- The sections of a text that ends here, if it can end.
abbrev pub finish : GrammarState → Option (List Section)
finish (Between ss) = Some ss
finish _ = None
