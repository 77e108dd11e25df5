-- A text can be completed from each state that pieces lead to.
use Rattle.std.specs.Prelude.{◌≡◌, List, [], ◌∷◌, codes, Some, None, refl}
use Rattle.std.proofs.Common.{◌∙◌, ap}
use Rattle.expr_text.specs.model.Programs.{Name}
use Rattle.expr_text.specs.text_core.Readers.{next, reached, IsBeginning}
use Rattle.expr_text.specs.Pieces as inner
use Rattle.expr_text.specs.Trees.{Sum}
use Rattle.expr_text.specs.GrammarStates as expression
use Rattle.expr_text.specs.Steps as expression_steps
use Rattle.expr_text.specs.Guards.{Atoms}
use Rattle.expr_text.specs.GuardGrammarStates as guards
use Rattle.expr_text.proofs.Ending.{close_ends, close_ends_guard}
use Rattle.expr_text.proofs.Completing.{expression_completed, guard_completed}
use Rattle.its_text.specs.Pieces.{Piece, In, Arrow, CostClose, SquareClose, Remark, word, open_bracket, close_bracket}
use Rattle.its_text.specs.Written.{LeftTerm, RightTerm, Marked, Bare, NoGuard, BehindMark, InSquares, Section, Goal}
use Rattle.its_text.specs.Written.{Start}
use Rattle.its_text.specs.Written.{Variables, Comment}
use Rattle.its_text.specs.GrammarStates.{Ruling, ArrowRead, Wrap, InCom, Alone, Aimed, Headed, GrammarState, Between, Opened, GoalNamed}
use Rattle.its_text.specs.GrammarStates.{GoalRead, StartNamed, StartOpened, StartListed, StartRead, StartClosed, Listing}
use Rattle.its_text.specs.GrammarStates.{CommentNamed, AfterRule, SourceNamed, LeftOpened, LeftRead, LeftParted, SourceClosed, Costing}
use Rattle.its_text.specs.GrammarStates.{Arrowed, ComNamed, ComOpened, TargetNamed, RightOpened, Arguing, TargetClosed, Targeted}
use Rattle.its_text.specs.GrammarStates.{GuardMarked, WordRead, MarkGuarding, SquareOpened, SquareGuarding, ruling_with}
use Rattle.its_text.specs.GrammarStates.{section_of}
use Rattle.its_text.specs.Steps.{behind_argument, argument_step, guard_ended, mark_guard_step, square_guard_step}
use Rattle.its_text.specs.Steps.{square_ended, shut_by, right_closed, left_closed, behind_left, cost_step, cost_ended, step}
use Rattle.its_text.specs.Grammar.{programs}
use Rattle.its_text.proofs.Ends.{ends}

-- These tokens lead to the state.
abbrev pub At : List Piece → GrammarState → Type 0
At done f = reached programs done ≡ Some f

-- If tokens with one more can be completed, so can they without it.
back : (p : Piece) (done : List Piece) → IsBeginning programs (p ∷ done) → IsBeginning programs done
back p done b = (b.0, p ∷ b.1, b.2)

-- A step leads from the state of some tokens to that of these and one more.
pub onward : (done : List Piece) (f g : GrammarState) (p : Piece) → At done f → step f p ≡ Some g → At (p ∷ done) g
onward done f g p at same = ap (λ o. next step o p) at ∙ same

between_goes : (ss : List Section) (done : List Piece) → At done (Between ss) → IsBeginning programs done
between_goes ss done at = (ss, [], ends done (Between ss) ss at refl)

goal_said_goes : (ss : List Section) (done : List Piece) → At done (GoalRead ss) → IsBeginning programs done
goal_said_goes ss done at = back close_bracket done (between_goes (Goal ∷ ss) (close_bracket ∷ done) (onward done (GoalRead ss) (Between (Goal ∷ ss)) close_bracket at refl))

goal_named_goes : (ss : List Section) (done : List Piece) → At done (GoalNamed ss) → IsBeginning programs done
goal_named_goes ss done at = back (word (codes "COMPLEXITY")) done (goal_said_goes ss ((word (codes "COMPLEXITY")) ∷ done) (onward done (GoalNamed ss) (GoalRead ss) (word (codes "COMPLEXITY")) at refl))

start_closed_goes : (ss : List Section) (name : Name) (done : List Piece) → At done (StartClosed ss name) → IsBeginning programs done
start_closed_goes ss name done at = back close_bracket done (between_goes (Start name ∷ ss) (close_bracket ∷ done) (onward done (StartClosed ss name) (Between (Start name ∷ ss)) close_bracket at refl))

start_said_goes : (ss : List Section) (name : Name) (done : List Piece) → At done (StartRead ss name) → IsBeginning programs done
start_said_goes ss name done at = back close_bracket done (start_closed_goes ss name (close_bracket ∷ done) (onward done (StartRead ss name) (StartClosed ss name) close_bracket at refl))

start_listed_goes : (ss : List Section) (done : List Piece) → At done (StartListed ss) → IsBeginning programs done
start_listed_goes ss done at = back (word (codes "f")) done (start_said_goes ss (codes "f") ((word (codes "f")) ∷ done) (onward done (StartListed ss) (StartRead ss (codes "f")) (word (codes "f")) at refl))

start_opened_goes : (ss : List Section) (done : List Piece) → At done (StartOpened ss) → IsBeginning programs done
start_opened_goes ss done at = back (word (codes "FUNCTIONSYMBOLS")) done (start_listed_goes ss ((word (codes "FUNCTIONSYMBOLS")) ∷ done) (onward done (StartOpened ss) (StartListed ss) (word (codes "FUNCTIONSYMBOLS")) at refl))

start_named_goes : (ss : List Section) (done : List Piece) → At done (StartNamed ss) → IsBeginning programs done
start_named_goes ss done at = back open_bracket done (start_opened_goes ss (open_bracket ∷ done) (onward done (StartNamed ss) (StartOpened ss) open_bracket at refl))

listing_goes : (ss : List Section) (names : List Name) (done : List Piece) → At done (Listing ss names) → IsBeginning programs done
listing_goes ss names done at = back close_bracket done (between_goes (Variables names ∷ ss) (close_bracket ∷ done) (onward done (Listing ss names) (Between (Variables names ∷ ss)) close_bracket at refl))

comment_named_goes : (ss : List Section) (done : List Piece) → At done (CommentNamed ss) → IsBeginning programs done
comment_named_goes ss done at = back (Remark (41 ∷ [])) done (between_goes (Comment (41 ∷ []) ∷ ss) ((Remark (41 ∷ [])) ∷ done) (onward done (CommentNamed ss) (Between (Comment (41 ∷ []) ∷ ss)) (Remark (41 ∷ [])) at refl))

opened_goes : (ss : List Section) (done : List Piece) → At done (Opened ss) → IsBeginning programs done
opened_goes ss done at = back (word (codes "VAR")) done (listing_goes ss [] ((word (codes "VAR")) ∷ done) (onward done (Opened ss) (Listing ss []) (word (codes "VAR")) at refl))

ruled_goes : (r : Ruling) (done : List Piece) → At done (AfterRule r) → IsBeginning programs done
ruled_goes r done at = back close_bracket done (between_goes (section_of r) (close_bracket ∷ done) (onward done (AfterRule r) (Between (section_of r)) close_bracket at refl))

targeted_goes : (h : Headed) (done : List Piece) → At done (Targeted h) → IsBeginning programs done
targeted_goes h done at = back close_bracket done (between_goes (section_of (ruling_with h NoGuard)) (close_bracket ∷ done) (onward done (Targeted h) (Between (section_of (ruling_with h NoGuard))) close_bracket at refl))

right_closed_goes : (l : ArrowRead) (t : RightTerm) (done : List Piece) → At done (TargetClosed l t) → IsBeginning programs done
right_closed_goes l t done at = back close_bracket done (targeted_goes (record { led = l; target = Marked t }) (close_bracket ∷ done) (onward done (TargetClosed l t) (Targeted (record { led = l; target = Marked t })) close_bracket at refl))

closed_goes : (l : ArrowRead) (wrap : Wrap) (t : RightTerm) (done : List Piece) → At done (shut_by l wrap t) → IsBeginning programs done
closed_goes l InCom t done at = right_closed_goes l t done at
closed_goes l Alone t done at = targeted_goes (record { led = l; target = Bare t }) done at

right_opened_goes : (a : Aimed) (done : List Piece) → At done (RightOpened a) → IsBeginning programs done
right_opened_goes a done at = back close_bracket done (closed_goes a.led a.wrap (record { name = a.name; arguments = [] }) (close_bracket ∷ done) (onward done (RightOpened a) (shut_by a.led a.wrap (record { name = a.name; arguments = [] })) close_bracket at refl))

target_named_goes : (a : Aimed) (done : List Piece) → At done (TargetNamed a) → IsBeginning programs done
target_named_goes a done at = back open_bracket done (right_opened_goes a (open_bracket ∷ done) (onward done (TargetNamed a) (RightOpened a) open_bracket at refl))

com_opened_goes : (l : ArrowRead) (done : List Piece) → At done (ComOpened l) → IsBeginning programs done
com_opened_goes l done at = back (word (codes "f")) done (target_named_goes (record { led = l; wrap = InCom; name = codes "f" }) ((word (codes "f")) ∷ done) (onward done (ComOpened l) (TargetNamed (record { led = l; wrap = InCom; name = codes "f" })) (word (codes "f")) at refl))

com_named_goes : (l : ArrowRead) (done : List Piece) → At done (ComNamed l) → IsBeginning programs done
com_named_goes l done at = back open_bracket done (com_opened_goes l (open_bracket ∷ done) (onward done (ComNamed l) (ComOpened l) open_bracket at refl))

arrowed_goes : (l : ArrowRead) (done : List Piece) → At done (Arrowed l) → IsBeginning programs done
arrowed_goes l done at = back (word (codes "f")) done (target_named_goes (record { led = l; wrap = Alone; name = codes "f" }) ((word (codes "f")) ∷ done) (onward done (Arrowed l) (TargetNamed (record { led = l; wrap = Alone; name = codes "f" })) (word (codes "f")) at refl))

left_closed_goes : (r : Ruling) (t : LeftTerm) (done : List Piece) → At done (SourceClosed r t) → IsBeginning programs done
left_closed_goes r t done at =
    back Arrow done (arrowed_goes (record { ruling = r; left = t; cost = None }) (Arrow ∷ done) (onward done (SourceClosed r t) (behind_left r t None) Arrow at refl))

-- A cost can be completed, and its brace can then be closed.
pub costing_steps : (r : Ruling) (t : LeftTerm) (done : List Piece) (e f : expression.GrammarState) (p : inner.Piece)
    → At done (Costing r t e) → expression_steps.step e p ≡ Some f → At (In p ∷ done) (Costing r t f)
costing_steps r t done e f p at same = onward done (Costing r t e) (Costing r t f) (In p) at (ap (λ o. cost_step r t o) same)

costing_ends : (r : Ruling) (t : LeftTerm) (done : List Piece) (e : expression.GrammarState) (c : Sum)
    → At done (Costing r t e) → expression_steps.finish e ≡ Some c → IsBeginning programs done
costing_ends r t done e c at same =
    back CostClose done (arrowed_goes (record { ruling = r; left = t; cost = Some c }) (CostClose ∷ done)
    (onward done (Costing r t e) (behind_left r t (Some c)) CostClose at (ap (λ o. cost_ended r t o) same)))

costing_goes : (r : Ruling) (t : LeftTerm) (e : expression.GrammarState) (done : List Piece) → At done (Costing r t e) → IsBeginning programs done
costing_goes r t e done at =
    expression_completed In (λ behind f. At behind (Costing r t f)) (λ behind. IsBeginning programs behind)
    (costing_steps r t) back (costing_ends r t) e done at

left_opened_goes : (r : Ruling) (name : Name) (done : List Piece) → At done (LeftOpened r name) → IsBeginning programs done
left_opened_goes r name done at = back close_bracket done (left_closed_goes r (record { name = name; arguments = [] }) (close_bracket ∷ done) (onward done (LeftOpened r name) (left_closed r name []) close_bracket at refl))

left_read_goes : (r : Ruling) (name a : Name) (earlier : List Name) (done : List Piece) → At done (LeftRead r name a earlier) → IsBeginning programs done
left_read_goes r name a earlier done at = back close_bracket done (left_closed_goes r (record { name = name; arguments = a ∷ earlier }) (close_bracket ∷ done) (onward done (LeftRead r name a earlier) (left_closed r name (a ∷ earlier)) close_bracket at refl))

left_parted_goes : (r : Ruling) (name a : Name) (earlier : List Name) (done : List Piece) → At done (LeftParted r name a earlier) → IsBeginning programs done
left_parted_goes r name a earlier done at = back (word (codes "f")) done (left_read_goes r name (codes "f") (a ∷ earlier) ((word (codes "f")) ∷ done) (onward done (LeftParted r name a earlier) (LeftRead r name (codes "f") (a ∷ earlier)) (word (codes "f")) at refl))

source_named_goes : (r : Ruling) (name : Name) (done : List Piece) → At done (SourceNamed r name) → IsBeginning programs done
source_named_goes r name done at = back open_bracket done (left_opened_goes r name (open_bracket ∷ done) (onward done (SourceNamed r name) (LeftOpened r name) open_bracket at refl))

guard_marked_goes : (h : Headed) (done : List Piece) → At done (GuardMarked h) → IsBeginning programs done
guard_marked_goes h done at = back close_bracket done (between_goes (section_of (ruling_with h (BehindMark None))) (close_bracket ∷ done) (onward done (GuardMarked h) (Between (section_of (ruling_with h (BehindMark None)))) close_bracket at refl))

word_read_goes : (h : Headed) (name : Name) (done : List Piece) → At done (WordRead h name) → IsBeginning programs done
word_read_goes h name done at = back open_bracket done (left_opened_goes (ruling_with h (BehindMark None)) name (open_bracket ∷ done) (onward done (WordRead h name) (LeftOpened (ruling_with h (BehindMark None)) name) open_bracket at refl))

square_opened_goes : (h : Headed) (done : List Piece) → At done (SquareOpened h) → IsBeginning programs done
square_opened_goes h done at = back SquareClose done (ruled_goes (ruling_with h (InSquares None)) (SquareClose ∷ done) (onward done (SquareOpened h) (AfterRule (ruling_with h (InSquares None))) SquareClose at refl))

-- An argument can be completed, and its term can then be closed.
arguing_steps : (a : Aimed) (arguments : List Sum) (done : List Piece) (e f : expression.GrammarState) (p : inner.Piece)
    → At done (Arguing a arguments e) → expression_steps.step e p ≡ Some f → At (In p ∷ done) (Arguing a arguments f)
arguing_steps a arguments done e f p at same = onward done (Arguing a arguments e) (Arguing a arguments f) (In p) at (ap (λ o. argument_step a arguments e o p) same)

-- The closing bracket can follow an argument that can end.
pub argument_closes : (a : Aimed) (arguments : List Sum) (e : expression.GrammarState) (s : Sum) → expression_steps.finish e ≡ Some s
    → step (Arguing a arguments e) close_bracket ≡ Some (right_closed a (s ∷ arguments))
argument_closes a arguments e s same = ap (λ o. argument_step a arguments e o inner.Close) (close_ends e s same) ∙ ap (λ o. behind_argument a arguments o inner.Close) same

arguing_ends : (a : Aimed) (arguments : List Sum) (done : List Piece) (e : expression.GrammarState) (s : Sum)
    → At done (Arguing a arguments e) → expression_steps.finish e ≡ Some s → IsBeginning programs done
arguing_ends a arguments done e s at same =
    back close_bracket done (closed_goes a.led a.wrap (record { name = a.name; arguments = s ∷ arguments }) (close_bracket ∷ done)
    (onward done (Arguing a arguments e) (right_closed a (s ∷ arguments)) close_bracket at (argument_closes a arguments e s same)))

arguing_goes : (a : Aimed) (arguments : List Sum) (e : expression.GrammarState) (done : List Piece) → At done (Arguing a arguments e) → IsBeginning programs done
arguing_goes a arguments e done at =
    expression_completed In (λ behind f. At behind (Arguing a arguments f)) (λ behind. IsBeginning programs behind)
    (arguing_steps a arguments) back (arguing_ends a arguments) e done at

-- Atoms can be completed, and the section or the square bracket can then be closed.
mark_steps : (h : Headed) (done : List Piece) (g k : guards.GuardGrammarState) (p : inner.Piece)
    → At done (MarkGuarding h g) → guards.step g p ≡ Some k → At (In p ∷ done) (MarkGuarding h k)
mark_steps h done g k p at same = onward done (MarkGuarding h g) (MarkGuarding h k) (In p) at (ap (λ o. mark_guard_step h g o p) same)

mark_ends : (h : Headed) (done : List Piece) (g : guards.GuardGrammarState) (atoms : Atoms) → At done (MarkGuarding h g) → guards.finish g ≡ Some atoms → IsBeginning programs done
mark_ends h done g atoms at same =
    back close_bracket done (between_goes (section_of (ruling_with h (BehindMark (Some atoms)))) (close_bracket ∷ done)
    (onward done (MarkGuarding h g) (Between (section_of (ruling_with h (BehindMark (Some atoms))))) close_bracket at
    (ap (λ o. mark_guard_step h g o inner.Close) (close_ends_guard g atoms same) ∙ ap (λ o. guard_ended h o inner.Close) same)))

mark_goes : (h : Headed) (g : guards.GuardGrammarState) (done : List Piece) → At done (MarkGuarding h g) → IsBeginning programs done
mark_goes h g done at =
    guard_completed In (λ behind k. At behind (MarkGuarding h k)) (λ behind. IsBeginning programs behind) (mark_steps h) back (mark_ends h) g done at

square_steps : (h : Headed) (done : List Piece) (g k : guards.GuardGrammarState) (p : inner.Piece)
    → At done (SquareGuarding h g) → guards.step g p ≡ Some k → At (In p ∷ done) (SquareGuarding h k)
square_steps h done g k p at same = onward done (SquareGuarding h g) (SquareGuarding h k) (In p) at (ap (λ o. square_guard_step h o) same)

square_ends : (h : Headed) (done : List Piece) (g : guards.GuardGrammarState) (atoms : Atoms) → At done (SquareGuarding h g) → guards.finish g ≡ Some atoms → IsBeginning programs done
square_ends h done g atoms at same =
    back SquareClose done (ruled_goes (ruling_with h (InSquares (Some atoms))) (SquareClose ∷ done)
    (onward done (SquareGuarding h g) (AfterRule (ruling_with h (InSquares (Some atoms)))) SquareClose at (ap (λ o. square_ended h o) same)))

square_goes : (h : Headed) (g : guards.GuardGrammarState) (done : List Piece) → At done (SquareGuarding h g) → IsBeginning programs done
square_goes h g done at =
    guard_completed In (λ behind k. At behind (SquareGuarding h k)) (λ behind. IsBeginning programs behind) (square_steps h) back (square_ends h) g done at

-- A text can be completed from each state that tokens lead to.
pub goes_on : (done : List Piece) (f : GrammarState) → reached programs done ≡ Some f → IsBeginning programs done
goes_on done (Between ss) at = between_goes ss done at
goes_on done (Opened ss) at = opened_goes ss done at
goes_on done (GoalNamed ss) at = goal_named_goes ss done at
goes_on done (GoalRead ss) at = goal_said_goes ss done at
goes_on done (StartNamed ss) at = start_named_goes ss done at
goes_on done (StartOpened ss) at = start_opened_goes ss done at
goes_on done (StartListed ss) at = start_listed_goes ss done at
goes_on done (StartRead ss name) at = start_said_goes ss name done at
goes_on done (StartClosed ss name) at = start_closed_goes ss name done at
goes_on done (Listing ss names) at = listing_goes ss names done at
goes_on done (CommentNamed ss) at = comment_named_goes ss done at
goes_on done (AfterRule r) at = ruled_goes r done at
goes_on done (SourceNamed r name) at = source_named_goes r name done at
goes_on done (LeftOpened r name) at = left_opened_goes r name done at
goes_on done (LeftRead r name a earlier) at = left_read_goes r name a earlier done at
goes_on done (LeftParted r name a earlier) at = left_parted_goes r name a earlier done at
goes_on done (SourceClosed r t) at = left_closed_goes r t done at
goes_on done (Costing r t e) at = costing_goes r t e done at
goes_on done (Arrowed l) at = arrowed_goes l done at
goes_on done (ComNamed l) at = com_named_goes l done at
goes_on done (ComOpened l) at = com_opened_goes l done at
goes_on done (TargetNamed a) at = target_named_goes a done at
goes_on done (RightOpened a) at = right_opened_goes a done at
goes_on done (Arguing a arguments e) at = arguing_goes a arguments e done at
goes_on done (TargetClosed l t) at = right_closed_goes l t done at
goes_on done (Targeted h) at = targeted_goes h done at
goes_on done (GuardMarked h) at = guard_marked_goes h done at
goes_on done (WordRead h name) at = word_read_goes h name done at
goes_on done (MarkGuarding h g) at = mark_goes h g done at
goes_on done (SquareOpened h) at = square_opened_goes h done at
goes_on done (SquareGuarding h g) at = square_goes h g done at
