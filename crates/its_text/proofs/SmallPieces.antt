-- The next token is within its limits exactly if the state shows no fault of its length or size.
use Rattle.std.proofs.Common.{◌≡◌, ℕ, true, false, List, length, Option, Some, None, refl}
use Rattle.expr_text.specs.model.Limits.{name_limit, coefficient_limit}
use Rattle.expr_text.specs.Pieces as inner
use Rattle.expr_text.specs.Trees.{Sum}
use Rattle.expr_text.specs.Terms.{number_of}
use Rattle.expr_text.specs.GrammarStates as expression
use Rattle.expr_text.specs.Steps as expression_steps
use Rattle.expr_text.specs.Guards.{Atoms}
use Rattle.expr_text.specs.GuardGrammarStates as guards
use Rattle.expr_text.specs.GuardGrammarStates.{GuardGrammarState, LeftSide, RightSide}
use Rattle.expr_text.specs.StateNames.{is_state, goes_on_with}
use Rattle.its_text.specs.Pieces.{Piece, In, Comma, Arrow, CostOpen, CostClose, GuardMark, SquareOpen, SquareClose}
use Rattle.its_text.specs.Pieces.{Disjoining, Remark, Wrong, Strange, digits}
use Rattle.its_text.specs.Written.{LeftTerm}
use Rattle.its_text.specs.GrammarStates.{Ruling, Aimed, Headed, GrammarState, Between, Opened, GoalNamed, GoalRead, StartNamed}
use Rattle.its_text.specs.GrammarStates.{StartOpened}
use Rattle.its_text.specs.GrammarStates.{StartListed, StartRead, StartClosed, Listing, CommentNamed, AfterRule, SourceNamed}
use Rattle.its_text.specs.GrammarStates.{LeftOpened, LeftRead, LeftParted, SourceClosed, Costing, Arrowed, ComNamed, ComOpened}
use Rattle.its_text.specs.GrammarStates.{TargetNamed, RightOpened, Arguing, TargetClosed, Targeted, GuardMarked, WordRead}
use Rattle.its_text.specs.GrammarStates.{MarkGuarding}
use Rattle.its_text.specs.GrammarStates.{SquareOpened, SquareGuarding}
use Rattle.its_text.specs.Steps.{behind_argument, argument_step, guard_ended, mark_guard_step, square_guard_step}
use Rattle.its_text.specs.Steps.{cost_step, guard_named, step}
use Rattle.its_text.specs.StateFaults as shown
use Rattle.its_text.specs.StateFaults.{OpenExpression, is_large, long_name}
use Rattle.its_text.specs.Spelling.{IsSmallInner, IsSmallPiece}
use Rattle.its_text.proofs.KeptStates.{IsGoingSmall, IsNextSmall}
use Rattle.its_text.proofs.RuleTurns.{goes_within}
use Rattle.std.proofs.lemmas.Bool.{ltb-false as within, le-ltb as not_past}

-- A token within its limits isn't too large.
not_large : (p : inner.Piece) → IsSmallInner p → is_large p ≡ false
not_large (inner.Digits ds) h = not_past coefficient_limit (number_of ds) h
not_large (inner.Word n) h = refl
not_large inner.Open h = refl
not_large inner.Close h = refl
not_large inner.Plus h = refl
not_large inner.Minus h = refl
not_large inner.Times h = refl
not_large inner.Caret h = refl
not_large (inner.Related sign) h = refl
not_large (inner.Joining joint) h = refl

not_long : (p : Piece) → IsSmallPiece p → long_name (Some p) ≡ false
not_long (In (inner.Word n)) h = not_past name_limit (length n) h
not_long (In (inner.Digits ds)) h = refl
not_long (In inner.Open) h = refl
not_long (In inner.Close) h = refl
not_long (In inner.Plus) h = refl
not_long (In inner.Minus) h = refl
not_long (In inner.Times) h = refl
not_long (In inner.Caret) h = refl
not_long (In (inner.Related sign)) h = refl
not_long (In (inner.Joining joint)) h = refl
not_long Comma h = refl
not_long Arrow h = refl
not_long CostOpen h = refl
not_long CostClose h = refl
not_long GuardMark h = refl
not_long SquareOpen h = refl
not_long SquareClose h = refl
not_long Disjoining h = refl
not_long (Remark bytes) h = refl
not_long Wrong h = refl
not_long Strange h = refl

going_small : (o : Option OpenExpression) (p : Piece) → IsSmallPiece p → IsGoingSmall o (Some p)
going_small None p h = tt
going_small (Some g) (In p) h = λ on. not_large p h
going_small (Some g) Comma h = tt
going_small (Some g) Arrow h = tt
going_small (Some g) CostOpen h = tt
going_small (Some g) CostClose h = tt
going_small (Some g) GuardMark h = tt
going_small (Some g) SquareOpen h = tt
going_small (Some g) SquareClose h = tt
going_small (Some g) Disjoining h = tt
going_small (Some g) (Remark bytes) h = tt
going_small (Some g) Wrong h = tt
going_small (Some g) Strange h = tt

-- A state shows no fault of the length and size of a small token.
pub next_small : (f : GrammarState) (p : Piece) (behind : Option Piece) → IsSmallPiece p → IsNextSmall f (Some p) behind
next_small f p behind h = (not_long p h, going_small (shown.open_expression f (Some p) behind) p h)

-- Digits that are accepted continue an expression, so a state that shows no fault of their size makes them small.
costing_digits : (r : Ruling) (t : LeftTerm) (o : Option expression.GrammarState) (g : GrammarState) → cost_step r t o ≡ Some g
    → is_state o ≡ true
costing_digits r t (Some f) g same = refl
costing_digits r t None g same = cc

argued_nowhere : (a : Aimed) (arguments : List Sum) (o : Option Sum) (ds : List ℕ) (g : GrammarState)
    → ¬ (behind_argument a arguments o (inner.Digits ds) ≡ Some g)
argued_nowhere a arguments None ds g same = cc
argued_nowhere a arguments (Some s) ds g same = cc

arguing_digits : (a : Aimed) (arguments : List Sum) (e : expression.GrammarState) (o : Option expression.GrammarState) (ds : List ℕ)
    (g : GrammarState) → argument_step a arguments e o (inner.Digits ds) ≡ Some g → is_state o ≡ true
arguing_digits a arguments e (Some f) ds g same = refl
arguing_digits a arguments e None ds g same = absurd (argued_nowhere a arguments (expression_steps.finish e) ds g same)

ended_nowhere : (h : Headed) (o : Option Atoms) (ds : List ℕ) (g : GrammarState)
    → ¬ (guard_ended h o (inner.Digits ds) ≡ Some g)
ended_nowhere h None ds g same = cc
ended_nowhere h (Some atoms) ds g same = cc

digits_within : (g k : GuardGrammarState) (ds : List ℕ) → guards.step g (inner.Digits ds) ≡ Some k
    → goes_on_with (guards.expression_in g) (inner.Digits ds) ≡ true
digits_within (LeftSide c e) k ds same = goes_within (LeftSide c e) k (inner.Digits ds) refl same
digits_within (RightSide c l sign e) k ds same = goes_within (RightSide c l sign e) k (inner.Digits ds) refl same

guarding_digits : (h : Headed) (g : GuardGrammarState) (o : Option GuardGrammarState) (ds : List ℕ) (f : GrammarState)
    → guards.step g (inner.Digits ds) ≡ o → mark_guard_step h g o (inner.Digits ds) ≡ Some f
    → goes_on_with (guards.expression_in g) (inner.Digits ds) ≡ true
guarding_digits h g (Some k) ds f is same = digits_within g k ds is
guarding_digits h g None ds f is same = absurd (ended_nowhere h (guards.finish g) ds f same)

squared_digits : (h : Headed) (g : GuardGrammarState) (o : Option GuardGrammarState) (ds : List ℕ) (f : GrammarState)
    → guards.step g (inner.Digits ds) ≡ o → square_guard_step h o ≡ Some f
    → goes_on_with (guards.expression_in g) (inner.Digits ds) ≡ true
squared_digits h g (Some k) ds f is same = digits_within g k ds is
squared_digits h g None ds f is same = cc

digits_small : (f g : GrammarState) (ds : List ℕ) (behind : Option Piece) → step f (digits ds) ≡ Some g
    → IsGoingSmall (shown.open_expression f (Some (digits ds)) behind) (Some (digits ds)) → is_large (inner.Digits ds) ≡ false
digits_small (Between ss) g ds behind same small = cc
digits_small (Opened ss) g ds behind same small = cc
digits_small (GoalNamed ss) g ds behind same small = cc
digits_small (GoalRead ss) g ds behind same small = cc
digits_small (StartNamed ss) g ds behind same small = cc
digits_small (StartOpened ss) g ds behind same small = cc
digits_small (StartListed ss) g ds behind same small = cc
digits_small (StartRead ss start) g ds behind same small = cc
digits_small (StartClosed ss start) g ds behind same small = cc
digits_small (Listing ss names) g ds behind same small = cc
digits_small (CommentNamed ss) g ds behind same small = cc
digits_small (AfterRule r) g ds behind same small = cc
digits_small (SourceNamed r source) g ds behind same small = cc
digits_small (LeftOpened r source) g ds behind same small = cc
digits_small (LeftRead r source a earlier) g ds behind same small = cc
digits_small (LeftParted r source a earlier) g ds behind same small = cc
digits_small (SourceClosed r t) g ds behind same small = cc
digits_small (Costing r t e) g ds behind same small =
    small (costing_digits r t (expression_steps.step e (inner.Digits ds)) g same)
digits_small (Arrowed l) g ds behind same small = cc
digits_small (ComNamed l) g ds behind same small = cc
digits_small (ComOpened l) g ds behind same small = cc
digits_small (TargetNamed a) g ds behind same small = cc
digits_small (RightOpened a) g ds behind same small = small refl
digits_small (Arguing a arguments e) g ds behind same small =
    small (arguing_digits a arguments e (expression_steps.step e (inner.Digits ds)) ds g same)
digits_small (TargetClosed l t) g ds behind same small = cc
digits_small (Targeted h) g ds behind same small = cc
digits_small (GuardMarked h) g ds behind same small = small refl
digits_small (WordRead h name) g ds behind same small =
    small (guarding_digits h (guard_named name) (guards.step (guard_named name) (inner.Digits ds)) ds g refl same)
digits_small (MarkGuarding h k) g ds behind same small =
    small (guarding_digits h k (guards.step k (inner.Digits ds)) ds g refl same)
digits_small (SquareOpened h) g ds behind same small = small refl
digits_small (SquareGuarding h k) g ds behind same small =
    small (squared_digits h k (guards.step k (inner.Digits ds)) ds g refl same)

-- An accepted token of which the state shows no fault of length or size is within its limits.
pub small_next : (f g : GrammarState) (p : Piece) (behind : Option Piece) → step f p ≡ Some g → IsNextSmall f (Some p) behind
    → IsSmallPiece p
small_next f g (In (inner.Word n)) behind same h = within name_limit (length n) h.0
small_next f g (In (inner.Digits ds)) behind same h =
    within coefficient_limit (number_of ds) (digits_small f g ds behind same h.1)
small_next f g (In inner.Open) behind same h = tt
small_next f g (In inner.Close) behind same h = tt
small_next f g (In inner.Plus) behind same h = tt
small_next f g (In inner.Minus) behind same h = tt
small_next f g (In inner.Times) behind same h = tt
small_next f g (In inner.Caret) behind same h = tt
small_next f g (In (inner.Related sign)) behind same h = tt
small_next f g (In (inner.Joining joint)) behind same h = tt
small_next f g Comma behind same h = tt
small_next f g Arrow behind same h = tt
small_next f g CostOpen behind same h = tt
small_next f g CostClose behind same h = tt
small_next f g GuardMark behind same h = tt
small_next f g SquareOpen behind same h = tt
small_next f g SquareClose behind same h = tt
small_next f g Disjoining behind same h = tt
small_next f g (Remark bytes) behind same h = tt
small_next f g Wrong behind same h = tt
small_next f g Strange behind same h = tt
