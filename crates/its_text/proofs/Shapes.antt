-- A target without `Com_1(..)` around it isn't named `Com_` and digits, in each state that a piece leads to.
use Rattle.std.specs.Prelude.{◌≡◌, List, [], ◌∷◌, codes, Bool, true, false, if◌then◌else◌, Option, Some, None, ⊤, refl}
use Rattle.std.specs.Prelude.{IsFalse}
use Rattle.expr_text.specs.model.Programs.{Name}
use Rattle.expr_text.specs.text_core.Names.{is_same}
use Rattle.expr_text.specs.Pieces as inner
use Rattle.expr_text.specs.Trees.{Sum}
use Rattle.expr_text.specs.GrammarStates as expression
use Rattle.expr_text.specs.Steps as expression_steps
use Rattle.expr_text.specs.Guards.{Atoms}
use Rattle.expr_text.specs.GuardGrammarStates as guards
use Rattle.its_text.specs.Pieces.{Piece}
use Rattle.its_text.specs.Written.{LeftTerm, RightTerm, Guard, NoGuard, BehindMark, InSquares, Section}
use Rattle.its_text.specs.GrammarStates.{Ruling, ArrowRead, Wrap, InCom, Alone, Aimed, Headed, GrammarState, Between, Opened, GoalNamed}
use Rattle.its_text.specs.GrammarStates.{GoalRead, StartNamed, StartOpened, StartListed, StartRead, StartClosed, Listing}
use Rattle.its_text.specs.GrammarStates.{CommentNamed, AfterRule, SourceNamed, LeftOpened, LeftRead, LeftParted, SourceClosed, Costing}
use Rattle.its_text.specs.GrammarStates.{Arrowed, ComNamed, ComOpened, TargetNamed, RightOpened, Arguing, TargetClosed, Targeted}
use Rattle.its_text.specs.GrammarStates.{GuardMarked, WordRead, MarkGuarding, SquareOpened, SquareGuarding, ruling_with}
use Rattle.expr_text.specs.text_core.Choices.{when}
use Rattle.its_text.specs.Steps.{section_named, cost_step, cost_ended, behind_target_name, shut_by, behind_arrow}
use Rattle.its_text.specs.Steps.{behind_rule, behind_comma}
use Rattle.its_text.specs.Steps.{behind_argument, argument_step, guard_ended, mark_guard_step, square_guard_step}
use Rattle.its_text.specs.Steps.{square_ended, guard_named, behind_mark, behind_word, behind_open, step}
use Rattle.its_text.specs.Grammar.{IsTarget, HaveTargets, AreSections}
use Rattle.its_text.proofs.StepCases.{HoldsOfSteps}
use Rattle.its_text.proofs.EveryStep.{of_step}

abbrev pub IsRuling : Ruling → Type 0
IsRuling r = AreSections r.sections × HaveTargets r.rules

abbrev pub IsWrap : Wrap → Name → Type 0
IsWrap InCom name = ⊤
IsWrap Alone name = IsFalse (is_same name (codes "Com_1"))

abbrev pub IsAimed : Aimed → Type 0
IsAimed a = IsRuling a.led.ruling × IsWrap a.wrap a.name

abbrev pub IsHeaded : Headed → Type 0
IsHeaded h = IsRuling h.led.ruling × IsTarget h.target

-- the targets of a state have the right form
abbrev pub HasRightForm : GrammarState → Type 0
HasRightForm (Between ss) = AreSections ss
HasRightForm (Opened ss) = AreSections ss
HasRightForm (GoalNamed ss) = AreSections ss
HasRightForm (GoalRead ss) = AreSections ss
HasRightForm (StartNamed ss) = AreSections ss
HasRightForm (StartOpened ss) = AreSections ss
HasRightForm (StartListed ss) = AreSections ss
HasRightForm (StartRead ss name) = AreSections ss
HasRightForm (StartClosed ss name) = AreSections ss
HasRightForm (Listing ss names) = AreSections ss
HasRightForm (CommentNamed ss) = AreSections ss
HasRightForm (AfterRule r) = IsRuling r
HasRightForm (SourceNamed r name) = IsRuling r
HasRightForm (LeftOpened r name) = IsRuling r
HasRightForm (LeftRead r name a earlier) = IsRuling r
HasRightForm (LeftParted r name a earlier) = IsRuling r
HasRightForm (SourceClosed r t) = IsRuling r
HasRightForm (Costing r t e) = IsRuling r
HasRightForm (Arrowed l) = IsRuling l.ruling
HasRightForm (ComNamed l) = IsRuling l.ruling
HasRightForm (ComOpened l) = IsRuling l.ruling
HasRightForm (TargetNamed a) = IsAimed a
HasRightForm (RightOpened a) = IsAimed a
HasRightForm (Arguing a arguments e) = IsAimed a
HasRightForm (TargetClosed l t) = IsRuling l.ruling
HasRightForm (Targeted h) = IsHeaded h
HasRightForm (GuardMarked h) = IsHeaded h
HasRightForm (WordRead h name) = IsHeaded h
HasRightForm (MarkGuarding h g) = IsHeaded h
HasRightForm (SquareOpened h) = IsHeaded h
HasRightForm (SquareGuarding h g) = IsHeaded h

-- the targets of the state after a step have the right form
abbrev pub Keeps : Option GrammarState → Type 0
Keeps None = ⊤
Keeps (Some g) = HasRightForm g

when_keeps : (v : Bool) (g : GrammarState) → HasRightForm g → Keeps (when v g)
when_keeps true g h = h
when_keeps false g h = tt

or_keeps : (v : Bool) (g : GrammarState) (o : Option GrammarState) → HasRightForm g → Keeps o → Keeps (if v then Some g else o)
or_keeps true g o h k = h
or_keeps false g o h k = k

section_named_keeps : (ss : List Section) (name : Name) → AreSections ss → Keeps (section_named ss name)
section_named_keeps ss name h =
    or_keeps (is_same name (codes "GOAL")) (GoalNamed ss) _ h
    (or_keeps (is_same name (codes "STARTTERM")) (StartNamed ss) _ h
    (or_keeps (is_same name (codes "VAR")) (Listing ss []) _ h
    (or_keeps (is_same name (codes "RULES")) (AfterRule (record { sections = ss; rules = [] })) _ (h, tt)
    (or_keeps (is_same name (codes "COMMENT")) (CommentNamed ss) None h tt))))

behind_arrow_keeps : (l : ArrowRead) (name : Name) → IsRuling l.ruling → HasRightForm (behind_arrow l name)
behind_arrow_keeps l name h = go (is_same name (codes "Com_1")) refl
  where
    go : (v : Bool) → is_same name (codes "Com_1") ≡ v → HasRightForm (if v then ComNamed l else behind_target_name l Alone name)
    go true same = h
    go false other = (h, other)

closed_keeps : (l : ArrowRead) (wrap : Wrap) (t : RightTerm) → IsRuling l.ruling → IsWrap wrap t.name → HasRightForm (shut_by l wrap t)
closed_keeps l InCom t h w = h
closed_keeps l Alone t h w = (h, w)

-- With one more rule, the targets still have the right form.
with_rule : (h : Headed) (guard : Guard) → IsHeaded h → IsRuling (ruling_with h guard)
with_rule h guard k = (k.0.0, (k.1, k.0.1))

behind_rule_keeps : (r : Ruling) (p : inner.Piece) → IsRuling r → Keeps (behind_rule r p)
behind_rule_keeps r (inner.Word name) h = h
behind_rule_keeps r inner.Close h = (h.1, h.0)
behind_rule_keeps r (inner.Digits ds) h = tt
behind_rule_keeps r inner.Open h = tt
behind_rule_keeps r inner.Plus h = tt
behind_rule_keeps r inner.Minus h = tt
behind_rule_keeps r inner.Times h = tt
behind_rule_keeps r inner.Caret h = tt
behind_rule_keeps r (inner.Related sign) h = tt
behind_rule_keeps r (inner.Joining joint) h = tt

costing_keeps : (r : Ruling) (t : LeftTerm) (o : Option expression.GrammarState) → IsRuling r → Keeps (cost_step r t o)
costing_keeps r t None h = tt
costing_keeps r t (Some more) h = h

cost_ended_keeps : (r : Ruling) (t : LeftTerm) (o : Option Sum) → IsRuling r → Keeps (cost_ended r t o)
cost_ended_keeps r t None h = tt
cost_ended_keeps r t (Some c) h = h

argued_keeps : (a : Aimed) (arguments : List Sum) (o : Option Sum) (p : inner.Piece) → IsAimed a → Keeps (behind_argument a arguments o p)
argued_keeps a arguments None p h = tt
argued_keeps a arguments (Some s) inner.Close h = closed_keeps a.led a.wrap (record { name = a.name; arguments = s ∷ arguments }) h.0 h.1
argued_keeps a arguments (Some s) (inner.Word name) h = tt
argued_keeps a arguments (Some s) (inner.Digits ds) h = tt
argued_keeps a arguments (Some s) inner.Open h = tt
argued_keeps a arguments (Some s) inner.Plus h = tt
argued_keeps a arguments (Some s) inner.Minus h = tt
argued_keeps a arguments (Some s) inner.Times h = tt
argued_keeps a arguments (Some s) inner.Caret h = tt
argued_keeps a arguments (Some s) (inner.Related sign) h = tt
argued_keeps a arguments (Some s) (inner.Joining joint) h = tt

parted_keeps : (a : Aimed) (arguments : List Sum) (o : Option Sum) → IsAimed a → Keeps (behind_comma a arguments o)
parted_keeps a arguments None h = tt
parted_keeps a arguments (Some s) h = h

arguing_keeps : (a : Aimed) (arguments : List Sum) (e : expression.GrammarState) (o : Option expression.GrammarState) (p : inner.Piece) → IsAimed a → Keeps (argument_step a arguments e o p)
arguing_keeps a arguments e (Some more) p h = h
arguing_keeps a arguments e None p h = argued_keeps a arguments (expression_steps.finish e) p h

guard_ended_keeps : (h : Headed) (o : Option Atoms) (p : inner.Piece) → IsHeaded h → Keeps (guard_ended h o p)
guard_ended_keeps h None p k = tt
guard_ended_keeps h (Some atoms) p k = behind_rule_keeps (ruling_with h (BehindMark (Some atoms))) p (with_rule h (BehindMark (Some atoms)) k)

guarding_keeps : (h : Headed) (g : guards.GuardGrammarState) (o : Option guards.GuardGrammarState) (p : inner.Piece) → IsHeaded h → Keeps (mark_guard_step h g o p)
guarding_keeps h g (Some more) p k = k
guarding_keeps h g None p k = guard_ended_keeps h (guards.finish g) p k

squared_keeps : (h : Headed) (o : Option guards.GuardGrammarState) → IsHeaded h → Keeps (square_guard_step h o)
squared_keeps h None k = tt
squared_keeps h (Some g) k = k

square_ended_keeps : (h : Headed) (o : Option Atoms) → IsHeaded h → Keeps (square_ended h o)
square_ended_keeps h None k = tt
square_ended_keeps h (Some atoms) k = with_rule h (InSquares (Some atoms)) k

guarding_step_keeps : (h : Headed) (g : guards.GuardGrammarState) (p : inner.Piece) → IsHeaded h → Keeps (mark_guard_step h g (guards.step g p) p)
guarding_step_keeps h g p k = guarding_keeps h g (guards.step g p) p k

behind_mark_keeps : (h : Headed) (p : inner.Piece) → IsHeaded h → Keeps (behind_mark h p)
behind_mark_keeps h (inner.Word name) k = k
behind_mark_keeps h inner.Close k = ((with_rule h (BehindMark None) k).1, k.0.0)
behind_mark_keeps h (inner.Digits ds) k = guarding_step_keeps h guards.no_atoms (inner.Digits ds) k
behind_mark_keeps h inner.Open k = guarding_step_keeps h guards.no_atoms inner.Open k
behind_mark_keeps h inner.Plus k = guarding_step_keeps h guards.no_atoms inner.Plus k
behind_mark_keeps h inner.Minus k = guarding_step_keeps h guards.no_atoms inner.Minus k
behind_mark_keeps h inner.Times k = guarding_step_keeps h guards.no_atoms inner.Times k
behind_mark_keeps h inner.Caret k = guarding_step_keeps h guards.no_atoms inner.Caret k
behind_mark_keeps h (inner.Related sign) k = guarding_step_keeps h guards.no_atoms (inner.Related sign) k
behind_mark_keeps h (inner.Joining joint) k = guarding_step_keeps h guards.no_atoms (inner.Joining joint) k

behind_word_keeps : (h : Headed) (name : Name) (p : inner.Piece) → IsHeaded h → Keeps (behind_word h name p)
behind_word_keeps h name inner.Open k = with_rule h (BehindMark None) k
behind_word_keeps h name (inner.Word other) k = guarding_step_keeps h (guard_named name) (inner.Word other) k
behind_word_keeps h name inner.Close k = guarding_step_keeps h (guard_named name) inner.Close k
behind_word_keeps h name (inner.Digits ds) k = guarding_step_keeps h (guard_named name) (inner.Digits ds) k
behind_word_keeps h name inner.Plus k = guarding_step_keeps h (guard_named name) inner.Plus k
behind_word_keeps h name inner.Minus k = guarding_step_keeps h (guard_named name) inner.Minus k
behind_word_keeps h name inner.Times k = guarding_step_keeps h (guard_named name) inner.Times k
behind_word_keeps h name inner.Caret k = guarding_step_keeps h (guard_named name) inner.Caret k
behind_word_keeps h name (inner.Related sign) k = guarding_step_keeps h (guard_named name) (inner.Related sign) k
behind_word_keeps h name (inner.Joining joint) k = guarding_step_keeps h (guard_named name) (inner.Joining joint) k

arguing_step_keeps : (a : Aimed) (arguments : List Sum) (e : expression.GrammarState) (p : inner.Piece) → IsAimed a → Keeps (argument_step a arguments e (expression_steps.step e p) p)
arguing_step_keeps a arguments e p h = arguing_keeps a arguments e (expression_steps.step e p) p h

behind_open_keeps : (a : Aimed) (p : inner.Piece) → IsAimed a → Keeps (behind_open a p)
behind_open_keeps a inner.Close h = closed_keeps a.led a.wrap (record { name = a.name; arguments = [] }) h.0 h.1
behind_open_keeps a inner.Open h = arguing_step_keeps a [] expression.beginning inner.Open h
behind_open_keeps a (inner.Word other) h = arguing_step_keeps a [] expression.beginning (inner.Word other) h
behind_open_keeps a (inner.Digits ds) h = arguing_step_keeps a [] expression.beginning (inner.Digits ds) h
behind_open_keeps a inner.Plus h = arguing_step_keeps a [] expression.beginning inner.Plus h
behind_open_keeps a inner.Minus h = arguing_step_keeps a [] expression.beginning inner.Minus h
behind_open_keeps a inner.Times h = arguing_step_keeps a [] expression.beginning inner.Times h
behind_open_keeps a inner.Caret h = arguing_step_keeps a [] expression.beginning inner.Caret h
behind_open_keeps a (inner.Related sign) h = arguing_step_keeps a [] expression.beginning (inner.Related sign) h
behind_open_keeps a (inner.Joining joint) h = arguing_step_keeps a [] expression.beginning (inner.Joining joint) h

-- A step keeps the right form of targets.
abbrev KeepsOn : GrammarState → Piece → Option GrammarState → Type 0
KeepsOn f p o = HasRightForm f → Keeps o

-- Each accepting step keeps the right form of targets.
keeps_each : HoldsOfSteps KeepsOn
keeps_each = record {
  nowhere = λ f p k. tt;
  between_open = λ ss k. k;
  opened_word = λ ss name k. section_named_keeps ss name k;
  goal_named_word = λ ss name k. when_keeps (is_same name (codes "COMPLEXITY")) (GoalRead ss) k;
  goal_said_close = λ ss k. (tt, k);
  start_named_open = λ ss k. k;
  start_opened_word = λ ss name k. when_keeps (is_same name (codes "FUNCTIONSYMBOLS")) (StartListed ss) k;
  start_listed_word = λ ss name k. k;
  start_said_close = λ ss start k. k;
  start_closed_close = λ ss start k. (tt, k);
  listing_word = λ ss names name k. k;
  listing_close = λ ss names k. (tt, k);
  comment_named_remark = λ ss bytes k. (tt, k);
  ruled_piece = λ r p k. behind_rule_keeps r p k;
  source_named_open = λ r source k. k;
  left_opened_word = λ r source name k. k;
  left_opened_close = λ r source k. k;
  left_read_comma = λ r source a earlier k. k;
  left_read_close = λ r source a earlier k. k;
  left_parted_word = λ r source a earlier name k. k;
  left_closed_arrow = λ r t k. k;
  left_closed_cost = λ r t k. k;
  costing_piece = λ r t e p k. costing_keeps r t (expression_steps.step e p) k;
  costing_close = λ r t e k. cost_ended_keeps r t (expression_steps.finish e) k;
  arrowed_word = λ l name k. behind_arrow_keeps l name k;
  com_named_open = λ l k. k;
  com_opened_word = λ l name k. (k, tt);
  target_named_open = λ a k. k;
  right_opened_piece = λ a p k. behind_open_keeps a p k;
  in_argument_piece = λ a arguments e p k. arguing_step_keeps a arguments e p k;
  in_argument_comma = λ a arguments e k. parted_keeps a arguments (expression_steps.finish e) k;
  right_closed_close = λ l t k. (k, tt);
  targeted_piece = λ h p k. behind_rule_keeps (ruling_with h NoGuard) p (with_rule h NoGuard k);
  targeted_mark = λ h k. k;
  targeted_square = λ h k. k;
  guard_marked_piece = λ h p k. behind_mark_keeps h p k;
  word_read_piece = λ h name p k. behind_word_keeps h name p k;
  mark_guarding_piece = λ h g p k. guarding_step_keeps h g p k;
  square_opened_piece = λ h p k. squared_keeps h (guards.step guards.no_atoms p) k;
  square_opened_square_close = λ h k. with_rule h (InSquares None) k;
  square_guarding_piece = λ h g p k. squared_keeps h (guards.step g p) k;
  square_guarding_square_close = λ h g k. square_ended_keeps h (guards.finish g) k;
}

-- Each step keeps the right form of targets.
pub step_keeps : (f : GrammarState) (p : Piece) → HasRightForm f → Keeps (step f p)
step_keeps f p k = of_step KeepsOn keeps_each f p k
