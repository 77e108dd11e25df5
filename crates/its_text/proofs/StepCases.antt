-- The accepting steps of a program's text: a property of each of them and of each rejection is one of every step.
use Rattle.std.specs.Prelude.{ℕ, List, [], ◌∷◌, codes, Option, Some, None}
use Rattle.expr_text.specs.model.Programs.{Name}
use Rattle.expr_text.specs.text_core.Names.{is_same}
use Rattle.expr_text.specs.text_core.Choices.{when}
use Rattle.expr_text.specs.Pieces as inner
use Rattle.expr_text.specs.Trees.{Sum}
use Rattle.expr_text.specs.GrammarStates as expression
use Rattle.expr_text.specs.Steps as expression_steps
use Rattle.expr_text.specs.GuardGrammarStates as guards
use Rattle.its_text.specs.Pieces.{Piece, In, Comma, Arrow, CostOpen, CostClose, GuardMark, SquareOpen, SquareClose}
use Rattle.its_text.specs.Pieces.{Remark}
use Rattle.its_text.specs.Written.{LeftTerm, RightTerm, Marked, NoGuard, InSquares, Section, Goal, Start, Variables}
use Rattle.its_text.specs.Written.{Comment}
use Rattle.its_text.specs.GrammarStates.{Ruling, ArrowRead, InCom, Aimed, Headed, GrammarState, Between, Opened, GoalNamed, GoalRead}
use Rattle.its_text.specs.GrammarStates.{StartNamed, StartOpened, StartListed, StartRead, StartClosed, Listing, CommentNamed}
use Rattle.its_text.specs.GrammarStates.{AfterRule, SourceNamed, LeftOpened, LeftRead, LeftParted, SourceClosed, Costing, Arrowed}
use Rattle.its_text.specs.GrammarStates.{ComNamed, ComOpened, TargetNamed, RightOpened, Arguing, TargetClosed, Targeted}
use Rattle.its_text.specs.GrammarStates.{GuardMarked, WordRead, MarkGuarding, SquareOpened, SquareGuarding, ruling_with}
use Rattle.its_text.specs.Steps.{behind_left, cost_step, cost_ended}
use Rattle.its_text.specs.Steps.{section_named, left_closed, behind_target_name, behind_arrow, behind_target, behind_rule}
use Rattle.its_text.specs.Steps.{behind_comma, argument_step}
use Rattle.its_text.specs.Steps.{mark_guard_step, square_guard_step, square_ended, behind_mark, behind_word}
use Rattle.its_text.specs.Steps.{behind_open}

-- the property holds of each rejection, and of each accepting step
pub record HoldsOfSteps (P : GrammarState → Piece → Option GrammarState → Type 0) : Type 0 where
  pub nowhere : (f : GrammarState) (p : Piece) → P f p None
  -- The steps between sections.
  pub between_open : (ss : List Section) → P (Between ss) (In inner.Open) (Some (Opened ss))
  -- the steps after the bracket that opens a section
  pub opened_word : (ss : List Section) (name : Name) → P (Opened ss) (In (inner.Word name)) (section_named ss name)
  -- the steps after `(GOAL`
  pub goal_named_word : (ss : List Section) (name : Name)
      → P (GoalNamed ss) (In (inner.Word name)) (when (is_same name (codes "COMPLEXITY")) (GoalRead ss))
  -- the steps after `(GOAL COMPLEXITY`
  pub goal_said_close : (ss : List Section) → P (GoalRead ss) (In inner.Close) (Some (Between (Goal ∷ ss)))
  -- the steps after `(STARTTERM`
  pub start_named_open : (ss : List Section) → P (StartNamed ss) (In inner.Open) (Some (StartOpened ss))
  -- the steps after the bracket after `STARTTERM`
  pub start_opened_word : (ss : List Section) (name : Name)
      → P (StartOpened ss) (In (inner.Word name)) (when (is_same name (codes "FUNCTIONSYMBOLS")) (StartListed ss))
  -- the steps after `FUNCTIONSYMBOLS`
  pub start_listed_word : (ss : List Section) (name : Name)
      → P (StartListed ss) (In (inner.Word name)) (Some (StartRead ss name))
  -- the steps after the start symbol
  pub start_said_close : (ss : List Section) (name : Name)
      → P (StartRead ss name) (In inner.Close) (Some (StartClosed ss name))
  -- the steps after the bracket that closes on the start symbol
  pub start_closed_close : (ss : List Section) (name : Name)
      → P (StartClosed ss name) (In inner.Close) (Some (Between (Start name ∷ ss)))
  -- the steps after `(VAR` and names
  pub listing_word : (ss : List Section) (names : List Name) (name : Name)
      → P (Listing ss names) (In (inner.Word name)) (Some (Listing ss (name ∷ names)))
  pub listing_close : (ss : List Section) (names : List Name)
      → P (Listing ss names) (In inner.Close) (Some (Between (Variables names ∷ ss)))
  -- the steps after `(COMMENT`
  pub comment_named_remark : (ss : List Section) (bytes : List ℕ)
      → P (CommentNamed ss) (Remark bytes) (Some (Between (Comment bytes ∷ ss)))
  -- the steps after `(RULES` and whole rules
  pub ruled_piece : (r : Ruling) (p : inner.Piece) → P (AfterRule r) (In p) (behind_rule r p)
  -- the steps after a rule's source
  pub source_named_open : (r : Ruling) (name : Name) → P (SourceNamed r name) (In inner.Open) (Some (LeftOpened r name))
  -- the steps after the bracket that opens left arguments
  pub left_opened_word : (r : Ruling) (name : Name) (a : Name)
      → P (LeftOpened r name) (In (inner.Word a)) (Some (LeftRead r name a []))
  pub left_opened_close : (r : Ruling) (name : Name)
      → P (LeftOpened r name) (In inner.Close) (Some (left_closed r name []))
  -- the steps after a left argument
  pub left_read_comma : (r : Ruling) (name a : Name) (earlier : List Name)
      → P (LeftRead r name a earlier) Comma (Some (LeftParted r name a earlier))
  pub left_read_close : (r : Ruling) (name a : Name) (earlier : List Name)
      → P (LeftRead r name a earlier) (In inner.Close) (Some (left_closed r name (a ∷ earlier)))
  -- the steps after the comma after a left argument
  pub left_parted_word : (r : Ruling) (name a : Name) (earlier : List Name) (b : Name)
      → P (LeftParted r name a earlier) (In (inner.Word b)) (Some (LeftRead r name b (a ∷ earlier)))
  -- the steps after the left term
  pub left_closed_arrow : (r : Ruling) (t : LeftTerm) → P (SourceClosed r t) Arrow (Some (behind_left r t None))
  pub left_closed_cost : (r : Ruling) (t : LeftTerm)
      → P (SourceClosed r t) CostOpen (Some (Costing r t expression.beginning))
  -- The steps within a cost.
  pub costing_piece : (r : Ruling) (t : LeftTerm) (e : expression.GrammarState) (p : inner.Piece)
      → P (Costing r t e) (In p) (cost_step r t (expression_steps.step e p))
  pub costing_close : (r : Ruling) (t : LeftTerm) (e : expression.GrammarState)
      → P (Costing r t e) CostClose (cost_ended r t (expression_steps.finish e))
  -- the steps after the arrow
  pub arrowed_word : (l : ArrowRead) (name : Name) → P (Arrowed l) (In (inner.Word name)) (Some (behind_arrow l name))
  -- the steps after `Com_1`
  pub com_named_open : (l : ArrowRead) → P (ComNamed l) (In inner.Open) (Some (ComOpened l))
  -- the steps after `Com_1(`
  pub com_opened_word : (l : ArrowRead) (name : Name) → P (ComOpened l) (In (inner.Word name)) (Some (behind_target_name l InCom name))
  -- the steps after the name of a right term
  pub target_named_open : (a : Aimed) → P (TargetNamed a) (In inner.Open) (Some (RightOpened a))
  -- the steps after the bracket that opens right arguments
  pub right_opened_piece : (a : Aimed) (p : inner.Piece) → P (RightOpened a) (In p) (behind_open a p)
  -- The steps within an argument.
  pub in_argument_piece : (a : Aimed) (arguments : List Sum) (e : expression.GrammarState) (p : inner.Piece)
      → P (Arguing a arguments e) (In p) (argument_step a arguments e (expression_steps.step e p) p)
  pub in_argument_comma : (a : Aimed) (arguments : List Sum) (e : expression.GrammarState)
      → P (Arguing a arguments e) Comma (behind_comma a arguments (expression_steps.finish e))
  -- the steps after the right term within `Com_1(`
  pub right_closed_close : (l : ArrowRead) (t : RightTerm) → P (TargetClosed l t) (In inner.Close) (Some (behind_target l (Marked t)))
  -- the steps after the target
  pub targeted_piece : (h : Headed) (p : inner.Piece) → P (Targeted h) (In p) (behind_rule (ruling_with h NoGuard) p)
  pub targeted_mark : (h : Headed) → P (Targeted h) GuardMark (Some (GuardMarked h))
  pub targeted_square : (h : Headed) → P (Targeted h) SquareOpen (Some (SquareOpened h))
  -- the steps after `:|:`
  pub guard_marked_piece : (h : Headed) (p : inner.Piece) → P (GuardMarked h) (In p) (behind_mark h p)
  -- the steps after a name after `:|:`
  pub word_read_piece : (h : Headed) (name : Name) (p : inner.Piece) → P (WordRead h name) (In p) (behind_word h name p)
  -- The steps within the atoms after `:|:`.
  pub mark_guarding_piece : (h : Headed) (g : guards.GuardGrammarState) (p : inner.Piece)
      → P (MarkGuarding h g) (In p) (mark_guard_step h g (guards.step g p) p)
  -- the steps after `[`
  pub square_opened_piece : (h : Headed) (p : inner.Piece)
      → P (SquareOpened h) (In p) (square_guard_step h (guards.step guards.no_atoms p))
  pub square_opened_square_close : (h : Headed)
      → P (SquareOpened h) SquareClose (Some (AfterRule (ruling_with h (InSquares None))))
  -- The steps within the atoms after `[`.
  pub square_guarding_piece : (h : Headed) (g : guards.GuardGrammarState) (p : inner.Piece)
      → P (SquareGuarding h g) (In p) (square_guard_step h (guards.step g p))
  pub square_guarding_square_close : (h : Headed) (g : guards.GuardGrammarState)
      → P (SquareGuarding h g) SquareClose (square_ended h (guards.finish g))
