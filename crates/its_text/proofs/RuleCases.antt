-- A property of each accepting step and of each rejection is one of each step in the rules after an arrow.
use Rattle.std.specs.Prelude.{List, Option}
use Rattle.expr_text.specs.model.Programs.{Name}
use Rattle.expr_text.specs.Pieces as inner
use Rattle.expr_text.specs.Trees.{Sum}
use Rattle.expr_text.specs.GrammarStates as expression
use Rattle.expr_text.specs.GuardGrammarStates as guards
use Rattle.its_text.specs.Pieces.{Piece, In, Comma, Arrow, CostOpen, CostClose, GuardMark, SquareOpen, SquareClose}
use Rattle.its_text.specs.Pieces.{Disjoining, Remark, Wrong, Strange}
use Rattle.its_text.specs.Written.{RightTerm}
use Rattle.its_text.specs.GrammarStates.{GrammarState, ArrowRead, Aimed, Headed}
use Rattle.its_text.specs.GrammarStates.{Arrowed, ComNamed, ComOpened, TargetNamed, RightOpened}
use Rattle.its_text.specs.GrammarStates.{Arguing, TargetClosed, Targeted, GuardMarked, WordRead, MarkGuarding, SquareOpened}
use Rattle.its_text.specs.GrammarStates.{SquareGuarding}
use Rattle.its_text.specs.Steps.{step}
use Rattle.its_text.proofs.StepCases.{HoldsOfSteps}

module _ (P : GrammarState → Piece → Option GrammarState → Type 0) (each : HoldsOfSteps P) where
  -- the steps after the arrow
  pub arrowed_case : (l : ArrowRead) (p : Piece) → P (Arrowed l) p (step (Arrowed l) p)
  arrowed_case l (In (inner.Word name)) = each.arrowed_word l name
  arrowed_case l (In (inner.Digits ds)) = each.nowhere (Arrowed l) (In (inner.Digits ds))
  arrowed_case l (In inner.Open) = each.nowhere (Arrowed l) (In inner.Open)
  arrowed_case l (In inner.Close) = each.nowhere (Arrowed l) (In inner.Close)
  arrowed_case l (In inner.Plus) = each.nowhere (Arrowed l) (In inner.Plus)
  arrowed_case l (In inner.Minus) = each.nowhere (Arrowed l) (In inner.Minus)
  arrowed_case l (In inner.Times) = each.nowhere (Arrowed l) (In inner.Times)
  arrowed_case l (In inner.Caret) = each.nowhere (Arrowed l) (In inner.Caret)
  arrowed_case l (In (inner.Related sign)) = each.nowhere (Arrowed l) (In (inner.Related sign))
  arrowed_case l (In (inner.Joining joint)) = each.nowhere (Arrowed l) (In (inner.Joining joint))
  arrowed_case l Comma = each.nowhere (Arrowed l) Comma
  arrowed_case l Arrow = each.nowhere (Arrowed l) Arrow
  arrowed_case l CostOpen = each.nowhere (Arrowed l) CostOpen
  arrowed_case l CostClose = each.nowhere (Arrowed l) CostClose
  arrowed_case l GuardMark = each.nowhere (Arrowed l) GuardMark
  arrowed_case l SquareOpen = each.nowhere (Arrowed l) SquareOpen
  arrowed_case l SquareClose = each.nowhere (Arrowed l) SquareClose
  arrowed_case l Disjoining = each.nowhere (Arrowed l) Disjoining
  arrowed_case l (Remark bytes) = each.nowhere (Arrowed l) (Remark bytes)
  arrowed_case l Wrong = each.nowhere (Arrowed l) Wrong
  arrowed_case l Strange = each.nowhere (Arrowed l) Strange

  -- the steps after `Com_1`
  pub com_named_case : (l : ArrowRead) (p : Piece) → P (ComNamed l) p (step (ComNamed l) p)
  com_named_case l (In (inner.Word name)) = each.nowhere (ComNamed l) (In (inner.Word name))
  com_named_case l (In (inner.Digits ds)) = each.nowhere (ComNamed l) (In (inner.Digits ds))
  com_named_case l (In inner.Open) = each.com_named_open l
  com_named_case l (In inner.Close) = each.nowhere (ComNamed l) (In inner.Close)
  com_named_case l (In inner.Plus) = each.nowhere (ComNamed l) (In inner.Plus)
  com_named_case l (In inner.Minus) = each.nowhere (ComNamed l) (In inner.Minus)
  com_named_case l (In inner.Times) = each.nowhere (ComNamed l) (In inner.Times)
  com_named_case l (In inner.Caret) = each.nowhere (ComNamed l) (In inner.Caret)
  com_named_case l (In (inner.Related sign)) = each.nowhere (ComNamed l) (In (inner.Related sign))
  com_named_case l (In (inner.Joining joint)) = each.nowhere (ComNamed l) (In (inner.Joining joint))
  com_named_case l Comma = each.nowhere (ComNamed l) Comma
  com_named_case l Arrow = each.nowhere (ComNamed l) Arrow
  com_named_case l CostOpen = each.nowhere (ComNamed l) CostOpen
  com_named_case l CostClose = each.nowhere (ComNamed l) CostClose
  com_named_case l GuardMark = each.nowhere (ComNamed l) GuardMark
  com_named_case l SquareOpen = each.nowhere (ComNamed l) SquareOpen
  com_named_case l SquareClose = each.nowhere (ComNamed l) SquareClose
  com_named_case l Disjoining = each.nowhere (ComNamed l) Disjoining
  com_named_case l (Remark bytes) = each.nowhere (ComNamed l) (Remark bytes)
  com_named_case l Wrong = each.nowhere (ComNamed l) Wrong
  com_named_case l Strange = each.nowhere (ComNamed l) Strange

  -- the steps after `Com_1(`
  pub com_opened_case : (l : ArrowRead) (p : Piece) → P (ComOpened l) p (step (ComOpened l) p)
  com_opened_case l (In (inner.Word name)) = each.com_opened_word l name
  com_opened_case l (In (inner.Digits ds)) = each.nowhere (ComOpened l) (In (inner.Digits ds))
  com_opened_case l (In inner.Open) = each.nowhere (ComOpened l) (In inner.Open)
  com_opened_case l (In inner.Close) = each.nowhere (ComOpened l) (In inner.Close)
  com_opened_case l (In inner.Plus) = each.nowhere (ComOpened l) (In inner.Plus)
  com_opened_case l (In inner.Minus) = each.nowhere (ComOpened l) (In inner.Minus)
  com_opened_case l (In inner.Times) = each.nowhere (ComOpened l) (In inner.Times)
  com_opened_case l (In inner.Caret) = each.nowhere (ComOpened l) (In inner.Caret)
  com_opened_case l (In (inner.Related sign)) = each.nowhere (ComOpened l) (In (inner.Related sign))
  com_opened_case l (In (inner.Joining joint)) = each.nowhere (ComOpened l) (In (inner.Joining joint))
  com_opened_case l Comma = each.nowhere (ComOpened l) Comma
  com_opened_case l Arrow = each.nowhere (ComOpened l) Arrow
  com_opened_case l CostOpen = each.nowhere (ComOpened l) CostOpen
  com_opened_case l CostClose = each.nowhere (ComOpened l) CostClose
  com_opened_case l GuardMark = each.nowhere (ComOpened l) GuardMark
  com_opened_case l SquareOpen = each.nowhere (ComOpened l) SquareOpen
  com_opened_case l SquareClose = each.nowhere (ComOpened l) SquareClose
  com_opened_case l Disjoining = each.nowhere (ComOpened l) Disjoining
  com_opened_case l (Remark bytes) = each.nowhere (ComOpened l) (Remark bytes)
  com_opened_case l Wrong = each.nowhere (ComOpened l) Wrong
  com_opened_case l Strange = each.nowhere (ComOpened l) Strange

  -- the steps after the name of a right term
  pub target_named_case : (a : Aimed) (p : Piece) → P (TargetNamed a) p (step (TargetNamed a) p)
  target_named_case a (In (inner.Word name)) = each.nowhere (TargetNamed a) (In (inner.Word name))
  target_named_case a (In (inner.Digits ds)) = each.nowhere (TargetNamed a) (In (inner.Digits ds))
  target_named_case a (In inner.Open) = each.target_named_open a
  target_named_case a (In inner.Close) = each.nowhere (TargetNamed a) (In inner.Close)
  target_named_case a (In inner.Plus) = each.nowhere (TargetNamed a) (In inner.Plus)
  target_named_case a (In inner.Minus) = each.nowhere (TargetNamed a) (In inner.Minus)
  target_named_case a (In inner.Times) = each.nowhere (TargetNamed a) (In inner.Times)
  target_named_case a (In inner.Caret) = each.nowhere (TargetNamed a) (In inner.Caret)
  target_named_case a (In (inner.Related sign)) = each.nowhere (TargetNamed a) (In (inner.Related sign))
  target_named_case a (In (inner.Joining joint)) = each.nowhere (TargetNamed a) (In (inner.Joining joint))
  target_named_case a Comma = each.nowhere (TargetNamed a) Comma
  target_named_case a Arrow = each.nowhere (TargetNamed a) Arrow
  target_named_case a CostOpen = each.nowhere (TargetNamed a) CostOpen
  target_named_case a CostClose = each.nowhere (TargetNamed a) CostClose
  target_named_case a GuardMark = each.nowhere (TargetNamed a) GuardMark
  target_named_case a SquareOpen = each.nowhere (TargetNamed a) SquareOpen
  target_named_case a SquareClose = each.nowhere (TargetNamed a) SquareClose
  target_named_case a Disjoining = each.nowhere (TargetNamed a) Disjoining
  target_named_case a (Remark bytes) = each.nowhere (TargetNamed a) (Remark bytes)
  target_named_case a Wrong = each.nowhere (TargetNamed a) Wrong
  target_named_case a Strange = each.nowhere (TargetNamed a) Strange

  -- the steps after the bracket that opens right arguments
  pub right_opened_case : (a : Aimed) (p : Piece) → P (RightOpened a) p (step (RightOpened a) p)
  right_opened_case a (In p) = each.right_opened_piece a p
  right_opened_case a Comma = each.nowhere (RightOpened a) Comma
  right_opened_case a Arrow = each.nowhere (RightOpened a) Arrow
  right_opened_case a CostOpen = each.nowhere (RightOpened a) CostOpen
  right_opened_case a CostClose = each.nowhere (RightOpened a) CostClose
  right_opened_case a GuardMark = each.nowhere (RightOpened a) GuardMark
  right_opened_case a SquareOpen = each.nowhere (RightOpened a) SquareOpen
  right_opened_case a SquareClose = each.nowhere (RightOpened a) SquareClose
  right_opened_case a Disjoining = each.nowhere (RightOpened a) Disjoining
  right_opened_case a (Remark bytes) = each.nowhere (RightOpened a) (Remark bytes)
  right_opened_case a Wrong = each.nowhere (RightOpened a) Wrong
  right_opened_case a Strange = each.nowhere (RightOpened a) Strange

  -- The steps within an argument.
  pub in_argument_case : (a : Aimed) (arguments : List Sum) (e : expression.GrammarState) (p : Piece)
      → P (Arguing a arguments e) p (step (Arguing a arguments e) p)
  in_argument_case a arguments e (In p) = each.in_argument_piece a arguments e p
  in_argument_case a arguments e Comma = each.in_argument_comma a arguments e
  in_argument_case a arguments e Arrow = each.nowhere (Arguing a arguments e) Arrow
  in_argument_case a arguments e CostOpen = each.nowhere (Arguing a arguments e) CostOpen
  in_argument_case a arguments e CostClose = each.nowhere (Arguing a arguments e) CostClose
  in_argument_case a arguments e GuardMark = each.nowhere (Arguing a arguments e) GuardMark
  in_argument_case a arguments e SquareOpen = each.nowhere (Arguing a arguments e) SquareOpen
  in_argument_case a arguments e SquareClose = each.nowhere (Arguing a arguments e) SquareClose
  in_argument_case a arguments e Disjoining = each.nowhere (Arguing a arguments e) Disjoining
  in_argument_case a arguments e (Remark bytes) = each.nowhere (Arguing a arguments e) (Remark bytes)
  in_argument_case a arguments e Wrong = each.nowhere (Arguing a arguments e) Wrong
  in_argument_case a arguments e Strange = each.nowhere (Arguing a arguments e) Strange

  -- the steps after the right term within `Com_1(`
  pub right_closed_case : (l : ArrowRead) (t : RightTerm) (p : Piece) → P (TargetClosed l t) p (step (TargetClosed l t) p)
  right_closed_case l t (In (inner.Word name)) = each.nowhere (TargetClosed l t) (In (inner.Word name))
  right_closed_case l t (In (inner.Digits ds)) = each.nowhere (TargetClosed l t) (In (inner.Digits ds))
  right_closed_case l t (In inner.Open) = each.nowhere (TargetClosed l t) (In inner.Open)
  right_closed_case l t (In inner.Close) = each.right_closed_close l t
  right_closed_case l t (In inner.Plus) = each.nowhere (TargetClosed l t) (In inner.Plus)
  right_closed_case l t (In inner.Minus) = each.nowhere (TargetClosed l t) (In inner.Minus)
  right_closed_case l t (In inner.Times) = each.nowhere (TargetClosed l t) (In inner.Times)
  right_closed_case l t (In inner.Caret) = each.nowhere (TargetClosed l t) (In inner.Caret)
  right_closed_case l t (In (inner.Related sign)) = each.nowhere (TargetClosed l t) (In (inner.Related sign))
  right_closed_case l t (In (inner.Joining joint)) = each.nowhere (TargetClosed l t) (In (inner.Joining joint))
  right_closed_case l t Comma = each.nowhere (TargetClosed l t) Comma
  right_closed_case l t Arrow = each.nowhere (TargetClosed l t) Arrow
  right_closed_case l t CostOpen = each.nowhere (TargetClosed l t) CostOpen
  right_closed_case l t CostClose = each.nowhere (TargetClosed l t) CostClose
  right_closed_case l t GuardMark = each.nowhere (TargetClosed l t) GuardMark
  right_closed_case l t SquareOpen = each.nowhere (TargetClosed l t) SquareOpen
  right_closed_case l t SquareClose = each.nowhere (TargetClosed l t) SquareClose
  right_closed_case l t Disjoining = each.nowhere (TargetClosed l t) Disjoining
  right_closed_case l t (Remark bytes) = each.nowhere (TargetClosed l t) (Remark bytes)
  right_closed_case l t Wrong = each.nowhere (TargetClosed l t) Wrong
  right_closed_case l t Strange = each.nowhere (TargetClosed l t) Strange

  -- the steps after the target
  pub targeted_case : (h : Headed) (p : Piece) → P (Targeted h) p (step (Targeted h) p)
  targeted_case h (In p) = each.targeted_piece h p
  targeted_case h Comma = each.nowhere (Targeted h) Comma
  targeted_case h Arrow = each.nowhere (Targeted h) Arrow
  targeted_case h CostOpen = each.nowhere (Targeted h) CostOpen
  targeted_case h CostClose = each.nowhere (Targeted h) CostClose
  targeted_case h GuardMark = each.targeted_mark h
  targeted_case h SquareOpen = each.targeted_square h
  targeted_case h SquareClose = each.nowhere (Targeted h) SquareClose
  targeted_case h Disjoining = each.nowhere (Targeted h) Disjoining
  targeted_case h (Remark bytes) = each.nowhere (Targeted h) (Remark bytes)
  targeted_case h Wrong = each.nowhere (Targeted h) Wrong
  targeted_case h Strange = each.nowhere (Targeted h) Strange

  -- the steps after `:|:`
  pub guard_marked_case : (h : Headed) (p : Piece) → P (GuardMarked h) p (step (GuardMarked h) p)
  guard_marked_case h (In p) = each.guard_marked_piece h p
  guard_marked_case h Comma = each.nowhere (GuardMarked h) Comma
  guard_marked_case h Arrow = each.nowhere (GuardMarked h) Arrow
  guard_marked_case h CostOpen = each.nowhere (GuardMarked h) CostOpen
  guard_marked_case h CostClose = each.nowhere (GuardMarked h) CostClose
  guard_marked_case h GuardMark = each.nowhere (GuardMarked h) GuardMark
  guard_marked_case h SquareOpen = each.nowhere (GuardMarked h) SquareOpen
  guard_marked_case h SquareClose = each.nowhere (GuardMarked h) SquareClose
  guard_marked_case h Disjoining = each.nowhere (GuardMarked h) Disjoining
  guard_marked_case h (Remark bytes) = each.nowhere (GuardMarked h) (Remark bytes)
  guard_marked_case h Wrong = each.nowhere (GuardMarked h) Wrong
  guard_marked_case h Strange = each.nowhere (GuardMarked h) Strange

  -- the steps after a name after `:|:`
  pub word_read_case : (h : Headed) (name : Name) (p : Piece) → P (WordRead h name) p (step (WordRead h name) p)
  word_read_case h name (In p) = each.word_read_piece h name p
  word_read_case h name Comma = each.nowhere (WordRead h name) Comma
  word_read_case h name Arrow = each.nowhere (WordRead h name) Arrow
  word_read_case h name CostOpen = each.nowhere (WordRead h name) CostOpen
  word_read_case h name CostClose = each.nowhere (WordRead h name) CostClose
  word_read_case h name GuardMark = each.nowhere (WordRead h name) GuardMark
  word_read_case h name SquareOpen = each.nowhere (WordRead h name) SquareOpen
  word_read_case h name SquareClose = each.nowhere (WordRead h name) SquareClose
  word_read_case h name Disjoining = each.nowhere (WordRead h name) Disjoining
  word_read_case h name (Remark bytes) = each.nowhere (WordRead h name) (Remark bytes)
  word_read_case h name Wrong = each.nowhere (WordRead h name) Wrong
  word_read_case h name Strange = each.nowhere (WordRead h name) Strange

  -- The steps within the atoms after `:|:`.
  pub mark_guarding_case : (h : Headed) (g : guards.GuardGrammarState) (p : Piece)
      → P (MarkGuarding h g) p (step (MarkGuarding h g) p)
  mark_guarding_case h g (In p) = each.mark_guarding_piece h g p
  mark_guarding_case h g Comma = each.nowhere (MarkGuarding h g) Comma
  mark_guarding_case h g Arrow = each.nowhere (MarkGuarding h g) Arrow
  mark_guarding_case h g CostOpen = each.nowhere (MarkGuarding h g) CostOpen
  mark_guarding_case h g CostClose = each.nowhere (MarkGuarding h g) CostClose
  mark_guarding_case h g GuardMark = each.nowhere (MarkGuarding h g) GuardMark
  mark_guarding_case h g SquareOpen = each.nowhere (MarkGuarding h g) SquareOpen
  mark_guarding_case h g SquareClose = each.nowhere (MarkGuarding h g) SquareClose
  mark_guarding_case h g Disjoining = each.nowhere (MarkGuarding h g) Disjoining
  mark_guarding_case h g (Remark bytes) = each.nowhere (MarkGuarding h g) (Remark bytes)
  mark_guarding_case h g Wrong = each.nowhere (MarkGuarding h g) Wrong
  mark_guarding_case h g Strange = each.nowhere (MarkGuarding h g) Strange

  -- the steps after `[`
  pub square_opened_case : (h : Headed) (p : Piece) → P (SquareOpened h) p (step (SquareOpened h) p)
  square_opened_case h (In p) = each.square_opened_piece h p
  square_opened_case h Comma = each.nowhere (SquareOpened h) Comma
  square_opened_case h Arrow = each.nowhere (SquareOpened h) Arrow
  square_opened_case h CostOpen = each.nowhere (SquareOpened h) CostOpen
  square_opened_case h CostClose = each.nowhere (SquareOpened h) CostClose
  square_opened_case h GuardMark = each.nowhere (SquareOpened h) GuardMark
  square_opened_case h SquareOpen = each.nowhere (SquareOpened h) SquareOpen
  square_opened_case h SquareClose = each.square_opened_square_close h
  square_opened_case h Disjoining = each.nowhere (SquareOpened h) Disjoining
  square_opened_case h (Remark bytes) = each.nowhere (SquareOpened h) (Remark bytes)
  square_opened_case h Wrong = each.nowhere (SquareOpened h) Wrong
  square_opened_case h Strange = each.nowhere (SquareOpened h) Strange

  -- The steps within the atoms after `[`.
  pub square_guarding_case : (h : Headed) (g : guards.GuardGrammarState) (p : Piece)
      → P (SquareGuarding h g) p (step (SquareGuarding h g) p)
  square_guarding_case h g (In p) = each.square_guarding_piece h g p
  square_guarding_case h g Comma = each.nowhere (SquareGuarding h g) Comma
  square_guarding_case h g Arrow = each.nowhere (SquareGuarding h g) Arrow
  square_guarding_case h g CostOpen = each.nowhere (SquareGuarding h g) CostOpen
  square_guarding_case h g CostClose = each.nowhere (SquareGuarding h g) CostClose
  square_guarding_case h g GuardMark = each.nowhere (SquareGuarding h g) GuardMark
  square_guarding_case h g SquareOpen = each.nowhere (SquareGuarding h g) SquareOpen
  square_guarding_case h g SquareClose = each.square_guarding_square_close h g
  square_guarding_case h g Disjoining = each.nowhere (SquareGuarding h g) Disjoining
  square_guarding_case h g (Remark bytes) = each.nowhere (SquareGuarding h g) (Remark bytes)
  square_guarding_case h g Wrong = each.nowhere (SquareGuarding h g) Wrong
  square_guarding_case h g Strange = each.nowhere (SquareGuarding h g) Strange
