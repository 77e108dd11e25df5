-- A property of each accepting step and of each rejection is one of each step outside the rules.
use Rattle.std.specs.Prelude.{List, Option}
use Rattle.expr_text.specs.model.Programs.{Name}
use Rattle.expr_text.specs.Pieces as inner
use Rattle.its_text.specs.Pieces.{Piece, In, Comma, Arrow, CostOpen, CostClose, GuardMark, SquareOpen, SquareClose}
use Rattle.its_text.specs.Pieces.{Disjoining, Remark, Wrong, Strange}
use Rattle.its_text.specs.Written.{Section}
use Rattle.its_text.specs.GrammarStates.{GrammarState, Between, Opened, GoalNamed, GoalRead, StartNamed, StartOpened, StartListed}
use Rattle.its_text.specs.GrammarStates.{StartRead, StartClosed, Listing, CommentNamed}
use Rattle.its_text.specs.Steps.{step}
use Rattle.its_text.proofs.StepCases.{HoldsOfSteps}

module _ (P : GrammarState → Piece → Option GrammarState → Type 0) (each : HoldsOfSteps P) where
  -- The steps between sections.
  pub between_case : (ss : List Section) (p : Piece) → P (Between ss) p (step (Between ss) p)
  between_case ss (In (inner.Word name)) = each.nowhere (Between ss) (In (inner.Word name))
  between_case ss (In (inner.Digits ds)) = each.nowhere (Between ss) (In (inner.Digits ds))
  between_case ss (In inner.Open) = each.between_open ss
  between_case ss (In inner.Close) = each.nowhere (Between ss) (In inner.Close)
  between_case ss (In inner.Plus) = each.nowhere (Between ss) (In inner.Plus)
  between_case ss (In inner.Minus) = each.nowhere (Between ss) (In inner.Minus)
  between_case ss (In inner.Times) = each.nowhere (Between ss) (In inner.Times)
  between_case ss (In inner.Caret) = each.nowhere (Between ss) (In inner.Caret)
  between_case ss (In (inner.Related sign)) = each.nowhere (Between ss) (In (inner.Related sign))
  between_case ss (In (inner.Joining joint)) = each.nowhere (Between ss) (In (inner.Joining joint))
  between_case ss Comma = each.nowhere (Between ss) Comma
  between_case ss Arrow = each.nowhere (Between ss) Arrow
  between_case ss CostOpen = each.nowhere (Between ss) CostOpen
  between_case ss CostClose = each.nowhere (Between ss) CostClose
  between_case ss GuardMark = each.nowhere (Between ss) GuardMark
  between_case ss SquareOpen = each.nowhere (Between ss) SquareOpen
  between_case ss SquareClose = each.nowhere (Between ss) SquareClose
  between_case ss Disjoining = each.nowhere (Between ss) Disjoining
  between_case ss (Remark bytes) = each.nowhere (Between ss) (Remark bytes)
  between_case ss Wrong = each.nowhere (Between ss) Wrong
  between_case ss Strange = each.nowhere (Between ss) Strange

  -- the steps after the bracket that opens a section
  pub opened_case : (ss : List Section) (p : Piece) → P (Opened ss) p (step (Opened ss) p)
  opened_case ss (In (inner.Word name)) = each.opened_word ss name
  opened_case ss (In (inner.Digits ds)) = each.nowhere (Opened ss) (In (inner.Digits ds))
  opened_case ss (In inner.Open) = each.nowhere (Opened ss) (In inner.Open)
  opened_case ss (In inner.Close) = each.nowhere (Opened ss) (In inner.Close)
  opened_case ss (In inner.Plus) = each.nowhere (Opened ss) (In inner.Plus)
  opened_case ss (In inner.Minus) = each.nowhere (Opened ss) (In inner.Minus)
  opened_case ss (In inner.Times) = each.nowhere (Opened ss) (In inner.Times)
  opened_case ss (In inner.Caret) = each.nowhere (Opened ss) (In inner.Caret)
  opened_case ss (In (inner.Related sign)) = each.nowhere (Opened ss) (In (inner.Related sign))
  opened_case ss (In (inner.Joining joint)) = each.nowhere (Opened ss) (In (inner.Joining joint))
  opened_case ss Comma = each.nowhere (Opened ss) Comma
  opened_case ss Arrow = each.nowhere (Opened ss) Arrow
  opened_case ss CostOpen = each.nowhere (Opened ss) CostOpen
  opened_case ss CostClose = each.nowhere (Opened ss) CostClose
  opened_case ss GuardMark = each.nowhere (Opened ss) GuardMark
  opened_case ss SquareOpen = each.nowhere (Opened ss) SquareOpen
  opened_case ss SquareClose = each.nowhere (Opened ss) SquareClose
  opened_case ss Disjoining = each.nowhere (Opened ss) Disjoining
  opened_case ss (Remark bytes) = each.nowhere (Opened ss) (Remark bytes)
  opened_case ss Wrong = each.nowhere (Opened ss) Wrong
  opened_case ss Strange = each.nowhere (Opened ss) Strange

  -- the steps after `(GOAL`
  pub goal_named_case : (ss : List Section) (p : Piece) → P (GoalNamed ss) p (step (GoalNamed ss) p)
  goal_named_case ss (In (inner.Word name)) = each.goal_named_word ss name
  goal_named_case ss (In (inner.Digits ds)) = each.nowhere (GoalNamed ss) (In (inner.Digits ds))
  goal_named_case ss (In inner.Open) = each.nowhere (GoalNamed ss) (In inner.Open)
  goal_named_case ss (In inner.Close) = each.nowhere (GoalNamed ss) (In inner.Close)
  goal_named_case ss (In inner.Plus) = each.nowhere (GoalNamed ss) (In inner.Plus)
  goal_named_case ss (In inner.Minus) = each.nowhere (GoalNamed ss) (In inner.Minus)
  goal_named_case ss (In inner.Times) = each.nowhere (GoalNamed ss) (In inner.Times)
  goal_named_case ss (In inner.Caret) = each.nowhere (GoalNamed ss) (In inner.Caret)
  goal_named_case ss (In (inner.Related sign)) = each.nowhere (GoalNamed ss) (In (inner.Related sign))
  goal_named_case ss (In (inner.Joining joint)) = each.nowhere (GoalNamed ss) (In (inner.Joining joint))
  goal_named_case ss Comma = each.nowhere (GoalNamed ss) Comma
  goal_named_case ss Arrow = each.nowhere (GoalNamed ss) Arrow
  goal_named_case ss CostOpen = each.nowhere (GoalNamed ss) CostOpen
  goal_named_case ss CostClose = each.nowhere (GoalNamed ss) CostClose
  goal_named_case ss GuardMark = each.nowhere (GoalNamed ss) GuardMark
  goal_named_case ss SquareOpen = each.nowhere (GoalNamed ss) SquareOpen
  goal_named_case ss SquareClose = each.nowhere (GoalNamed ss) SquareClose
  goal_named_case ss Disjoining = each.nowhere (GoalNamed ss) Disjoining
  goal_named_case ss (Remark bytes) = each.nowhere (GoalNamed ss) (Remark bytes)
  goal_named_case ss Wrong = each.nowhere (GoalNamed ss) Wrong
  goal_named_case ss Strange = each.nowhere (GoalNamed ss) Strange

  -- the steps after `(GOAL COMPLEXITY`
  pub goal_said_case : (ss : List Section) (p : Piece) → P (GoalRead ss) p (step (GoalRead ss) p)
  goal_said_case ss (In (inner.Word name)) = each.nowhere (GoalRead ss) (In (inner.Word name))
  goal_said_case ss (In (inner.Digits ds)) = each.nowhere (GoalRead ss) (In (inner.Digits ds))
  goal_said_case ss (In inner.Open) = each.nowhere (GoalRead ss) (In inner.Open)
  goal_said_case ss (In inner.Close) = each.goal_said_close ss
  goal_said_case ss (In inner.Plus) = each.nowhere (GoalRead ss) (In inner.Plus)
  goal_said_case ss (In inner.Minus) = each.nowhere (GoalRead ss) (In inner.Minus)
  goal_said_case ss (In inner.Times) = each.nowhere (GoalRead ss) (In inner.Times)
  goal_said_case ss (In inner.Caret) = each.nowhere (GoalRead ss) (In inner.Caret)
  goal_said_case ss (In (inner.Related sign)) = each.nowhere (GoalRead ss) (In (inner.Related sign))
  goal_said_case ss (In (inner.Joining joint)) = each.nowhere (GoalRead ss) (In (inner.Joining joint))
  goal_said_case ss Comma = each.nowhere (GoalRead ss) Comma
  goal_said_case ss Arrow = each.nowhere (GoalRead ss) Arrow
  goal_said_case ss CostOpen = each.nowhere (GoalRead ss) CostOpen
  goal_said_case ss CostClose = each.nowhere (GoalRead ss) CostClose
  goal_said_case ss GuardMark = each.nowhere (GoalRead ss) GuardMark
  goal_said_case ss SquareOpen = each.nowhere (GoalRead ss) SquareOpen
  goal_said_case ss SquareClose = each.nowhere (GoalRead ss) SquareClose
  goal_said_case ss Disjoining = each.nowhere (GoalRead ss) Disjoining
  goal_said_case ss (Remark bytes) = each.nowhere (GoalRead ss) (Remark bytes)
  goal_said_case ss Wrong = each.nowhere (GoalRead ss) Wrong
  goal_said_case ss Strange = each.nowhere (GoalRead ss) Strange

  -- the steps after `(STARTTERM`
  pub start_named_case : (ss : List Section) (p : Piece) → P (StartNamed ss) p (step (StartNamed ss) p)
  start_named_case ss (In (inner.Word name)) = each.nowhere (StartNamed ss) (In (inner.Word name))
  start_named_case ss (In (inner.Digits ds)) = each.nowhere (StartNamed ss) (In (inner.Digits ds))
  start_named_case ss (In inner.Open) = each.start_named_open ss
  start_named_case ss (In inner.Close) = each.nowhere (StartNamed ss) (In inner.Close)
  start_named_case ss (In inner.Plus) = each.nowhere (StartNamed ss) (In inner.Plus)
  start_named_case ss (In inner.Minus) = each.nowhere (StartNamed ss) (In inner.Minus)
  start_named_case ss (In inner.Times) = each.nowhere (StartNamed ss) (In inner.Times)
  start_named_case ss (In inner.Caret) = each.nowhere (StartNamed ss) (In inner.Caret)
  start_named_case ss (In (inner.Related sign)) = each.nowhere (StartNamed ss) (In (inner.Related sign))
  start_named_case ss (In (inner.Joining joint)) = each.nowhere (StartNamed ss) (In (inner.Joining joint))
  start_named_case ss Comma = each.nowhere (StartNamed ss) Comma
  start_named_case ss Arrow = each.nowhere (StartNamed ss) Arrow
  start_named_case ss CostOpen = each.nowhere (StartNamed ss) CostOpen
  start_named_case ss CostClose = each.nowhere (StartNamed ss) CostClose
  start_named_case ss GuardMark = each.nowhere (StartNamed ss) GuardMark
  start_named_case ss SquareOpen = each.nowhere (StartNamed ss) SquareOpen
  start_named_case ss SquareClose = each.nowhere (StartNamed ss) SquareClose
  start_named_case ss Disjoining = each.nowhere (StartNamed ss) Disjoining
  start_named_case ss (Remark bytes) = each.nowhere (StartNamed ss) (Remark bytes)
  start_named_case ss Wrong = each.nowhere (StartNamed ss) Wrong
  start_named_case ss Strange = each.nowhere (StartNamed ss) Strange

  -- the steps after the bracket after `STARTTERM`
  pub start_opened_case : (ss : List Section) (p : Piece) → P (StartOpened ss) p (step (StartOpened ss) p)
  start_opened_case ss (In (inner.Word name)) = each.start_opened_word ss name
  start_opened_case ss (In (inner.Digits ds)) = each.nowhere (StartOpened ss) (In (inner.Digits ds))
  start_opened_case ss (In inner.Open) = each.nowhere (StartOpened ss) (In inner.Open)
  start_opened_case ss (In inner.Close) = each.nowhere (StartOpened ss) (In inner.Close)
  start_opened_case ss (In inner.Plus) = each.nowhere (StartOpened ss) (In inner.Plus)
  start_opened_case ss (In inner.Minus) = each.nowhere (StartOpened ss) (In inner.Minus)
  start_opened_case ss (In inner.Times) = each.nowhere (StartOpened ss) (In inner.Times)
  start_opened_case ss (In inner.Caret) = each.nowhere (StartOpened ss) (In inner.Caret)
  start_opened_case ss (In (inner.Related sign)) = each.nowhere (StartOpened ss) (In (inner.Related sign))
  start_opened_case ss (In (inner.Joining joint)) = each.nowhere (StartOpened ss) (In (inner.Joining joint))
  start_opened_case ss Comma = each.nowhere (StartOpened ss) Comma
  start_opened_case ss Arrow = each.nowhere (StartOpened ss) Arrow
  start_opened_case ss CostOpen = each.nowhere (StartOpened ss) CostOpen
  start_opened_case ss CostClose = each.nowhere (StartOpened ss) CostClose
  start_opened_case ss GuardMark = each.nowhere (StartOpened ss) GuardMark
  start_opened_case ss SquareOpen = each.nowhere (StartOpened ss) SquareOpen
  start_opened_case ss SquareClose = each.nowhere (StartOpened ss) SquareClose
  start_opened_case ss Disjoining = each.nowhere (StartOpened ss) Disjoining
  start_opened_case ss (Remark bytes) = each.nowhere (StartOpened ss) (Remark bytes)
  start_opened_case ss Wrong = each.nowhere (StartOpened ss) Wrong
  start_opened_case ss Strange = each.nowhere (StartOpened ss) Strange

  -- the steps after `FUNCTIONSYMBOLS`
  pub start_listed_case : (ss : List Section) (p : Piece) → P (StartListed ss) p (step (StartListed ss) p)
  start_listed_case ss (In (inner.Word name)) = each.start_listed_word ss name
  start_listed_case ss (In (inner.Digits ds)) = each.nowhere (StartListed ss) (In (inner.Digits ds))
  start_listed_case ss (In inner.Open) = each.nowhere (StartListed ss) (In inner.Open)
  start_listed_case ss (In inner.Close) = each.nowhere (StartListed ss) (In inner.Close)
  start_listed_case ss (In inner.Plus) = each.nowhere (StartListed ss) (In inner.Plus)
  start_listed_case ss (In inner.Minus) = each.nowhere (StartListed ss) (In inner.Minus)
  start_listed_case ss (In inner.Times) = each.nowhere (StartListed ss) (In inner.Times)
  start_listed_case ss (In inner.Caret) = each.nowhere (StartListed ss) (In inner.Caret)
  start_listed_case ss (In (inner.Related sign)) = each.nowhere (StartListed ss) (In (inner.Related sign))
  start_listed_case ss (In (inner.Joining joint)) = each.nowhere (StartListed ss) (In (inner.Joining joint))
  start_listed_case ss Comma = each.nowhere (StartListed ss) Comma
  start_listed_case ss Arrow = each.nowhere (StartListed ss) Arrow
  start_listed_case ss CostOpen = each.nowhere (StartListed ss) CostOpen
  start_listed_case ss CostClose = each.nowhere (StartListed ss) CostClose
  start_listed_case ss GuardMark = each.nowhere (StartListed ss) GuardMark
  start_listed_case ss SquareOpen = each.nowhere (StartListed ss) SquareOpen
  start_listed_case ss SquareClose = each.nowhere (StartListed ss) SquareClose
  start_listed_case ss Disjoining = each.nowhere (StartListed ss) Disjoining
  start_listed_case ss (Remark bytes) = each.nowhere (StartListed ss) (Remark bytes)
  start_listed_case ss Wrong = each.nowhere (StartListed ss) Wrong
  start_listed_case ss Strange = each.nowhere (StartListed ss) Strange

  -- the steps after the start symbol
  pub start_said_case : (ss : List Section) (start : Name) (p : Piece)
      → P (StartRead ss start) p (step (StartRead ss start) p)
  start_said_case ss start (In (inner.Word name)) = each.nowhere (StartRead ss start) (In (inner.Word name))
  start_said_case ss start (In (inner.Digits ds)) = each.nowhere (StartRead ss start) (In (inner.Digits ds))
  start_said_case ss start (In inner.Open) = each.nowhere (StartRead ss start) (In inner.Open)
  start_said_case ss start (In inner.Close) = each.start_said_close ss start
  start_said_case ss start (In inner.Plus) = each.nowhere (StartRead ss start) (In inner.Plus)
  start_said_case ss start (In inner.Minus) = each.nowhere (StartRead ss start) (In inner.Minus)
  start_said_case ss start (In inner.Times) = each.nowhere (StartRead ss start) (In inner.Times)
  start_said_case ss start (In inner.Caret) = each.nowhere (StartRead ss start) (In inner.Caret)
  start_said_case ss start (In (inner.Related sign)) = each.nowhere (StartRead ss start) (In (inner.Related sign))
  start_said_case ss start (In (inner.Joining joint)) = each.nowhere (StartRead ss start) (In (inner.Joining joint))
  start_said_case ss start Comma = each.nowhere (StartRead ss start) Comma
  start_said_case ss start Arrow = each.nowhere (StartRead ss start) Arrow
  start_said_case ss start CostOpen = each.nowhere (StartRead ss start) CostOpen
  start_said_case ss start CostClose = each.nowhere (StartRead ss start) CostClose
  start_said_case ss start GuardMark = each.nowhere (StartRead ss start) GuardMark
  start_said_case ss start SquareOpen = each.nowhere (StartRead ss start) SquareOpen
  start_said_case ss start SquareClose = each.nowhere (StartRead ss start) SquareClose
  start_said_case ss start Disjoining = each.nowhere (StartRead ss start) Disjoining
  start_said_case ss start (Remark bytes) = each.nowhere (StartRead ss start) (Remark bytes)
  start_said_case ss start Wrong = each.nowhere (StartRead ss start) Wrong
  start_said_case ss start Strange = each.nowhere (StartRead ss start) Strange

  -- the steps after the bracket that closes on the start symbol
  pub start_closed_case : (ss : List Section) (start : Name) (p : Piece)
      → P (StartClosed ss start) p (step (StartClosed ss start) p)
  start_closed_case ss start (In (inner.Word name)) = each.nowhere (StartClosed ss start) (In (inner.Word name))
  start_closed_case ss start (In (inner.Digits ds)) = each.nowhere (StartClosed ss start) (In (inner.Digits ds))
  start_closed_case ss start (In inner.Open) = each.nowhere (StartClosed ss start) (In inner.Open)
  start_closed_case ss start (In inner.Close) = each.start_closed_close ss start
  start_closed_case ss start (In inner.Plus) = each.nowhere (StartClosed ss start) (In inner.Plus)
  start_closed_case ss start (In inner.Minus) = each.nowhere (StartClosed ss start) (In inner.Minus)
  start_closed_case ss start (In inner.Times) = each.nowhere (StartClosed ss start) (In inner.Times)
  start_closed_case ss start (In inner.Caret) = each.nowhere (StartClosed ss start) (In inner.Caret)
  start_closed_case ss start (In (inner.Related sign)) = each.nowhere (StartClosed ss start) (In (inner.Related sign))
  start_closed_case ss start (In (inner.Joining joint)) = each.nowhere (StartClosed ss start) (In (inner.Joining joint))
  start_closed_case ss start Comma = each.nowhere (StartClosed ss start) Comma
  start_closed_case ss start Arrow = each.nowhere (StartClosed ss start) Arrow
  start_closed_case ss start CostOpen = each.nowhere (StartClosed ss start) CostOpen
  start_closed_case ss start CostClose = each.nowhere (StartClosed ss start) CostClose
  start_closed_case ss start GuardMark = each.nowhere (StartClosed ss start) GuardMark
  start_closed_case ss start SquareOpen = each.nowhere (StartClosed ss start) SquareOpen
  start_closed_case ss start SquareClose = each.nowhere (StartClosed ss start) SquareClose
  start_closed_case ss start Disjoining = each.nowhere (StartClosed ss start) Disjoining
  start_closed_case ss start (Remark bytes) = each.nowhere (StartClosed ss start) (Remark bytes)
  start_closed_case ss start Wrong = each.nowhere (StartClosed ss start) Wrong
  start_closed_case ss start Strange = each.nowhere (StartClosed ss start) Strange

  -- the steps after `(VAR` and names
  pub listing_case : (ss : List Section) (names : List Name) (p : Piece)
      → P (Listing ss names) p (step (Listing ss names) p)
  listing_case ss names (In (inner.Word name)) = each.listing_word ss names name
  listing_case ss names (In (inner.Digits ds)) = each.nowhere (Listing ss names) (In (inner.Digits ds))
  listing_case ss names (In inner.Open) = each.nowhere (Listing ss names) (In inner.Open)
  listing_case ss names (In inner.Close) = each.listing_close ss names
  listing_case ss names (In inner.Plus) = each.nowhere (Listing ss names) (In inner.Plus)
  listing_case ss names (In inner.Minus) = each.nowhere (Listing ss names) (In inner.Minus)
  listing_case ss names (In inner.Times) = each.nowhere (Listing ss names) (In inner.Times)
  listing_case ss names (In inner.Caret) = each.nowhere (Listing ss names) (In inner.Caret)
  listing_case ss names (In (inner.Related sign)) = each.nowhere (Listing ss names) (In (inner.Related sign))
  listing_case ss names (In (inner.Joining joint)) = each.nowhere (Listing ss names) (In (inner.Joining joint))
  listing_case ss names Comma = each.nowhere (Listing ss names) Comma
  listing_case ss names Arrow = each.nowhere (Listing ss names) Arrow
  listing_case ss names CostOpen = each.nowhere (Listing ss names) CostOpen
  listing_case ss names CostClose = each.nowhere (Listing ss names) CostClose
  listing_case ss names GuardMark = each.nowhere (Listing ss names) GuardMark
  listing_case ss names SquareOpen = each.nowhere (Listing ss names) SquareOpen
  listing_case ss names SquareClose = each.nowhere (Listing ss names) SquareClose
  listing_case ss names Disjoining = each.nowhere (Listing ss names) Disjoining
  listing_case ss names (Remark bytes) = each.nowhere (Listing ss names) (Remark bytes)
  listing_case ss names Wrong = each.nowhere (Listing ss names) Wrong
  listing_case ss names Strange = each.nowhere (Listing ss names) Strange

  -- the steps after `(COMMENT`
  pub comment_named_case : (ss : List Section) (p : Piece) → P (CommentNamed ss) p (step (CommentNamed ss) p)
  comment_named_case ss (In (inner.Word name)) = each.nowhere (CommentNamed ss) (In (inner.Word name))
  comment_named_case ss (In (inner.Digits ds)) = each.nowhere (CommentNamed ss) (In (inner.Digits ds))
  comment_named_case ss (In inner.Open) = each.nowhere (CommentNamed ss) (In inner.Open)
  comment_named_case ss (In inner.Close) = each.nowhere (CommentNamed ss) (In inner.Close)
  comment_named_case ss (In inner.Plus) = each.nowhere (CommentNamed ss) (In inner.Plus)
  comment_named_case ss (In inner.Minus) = each.nowhere (CommentNamed ss) (In inner.Minus)
  comment_named_case ss (In inner.Times) = each.nowhere (CommentNamed ss) (In inner.Times)
  comment_named_case ss (In inner.Caret) = each.nowhere (CommentNamed ss) (In inner.Caret)
  comment_named_case ss (In (inner.Related sign)) = each.nowhere (CommentNamed ss) (In (inner.Related sign))
  comment_named_case ss (In (inner.Joining joint)) = each.nowhere (CommentNamed ss) (In (inner.Joining joint))
  comment_named_case ss Comma = each.nowhere (CommentNamed ss) Comma
  comment_named_case ss Arrow = each.nowhere (CommentNamed ss) Arrow
  comment_named_case ss CostOpen = each.nowhere (CommentNamed ss) CostOpen
  comment_named_case ss CostClose = each.nowhere (CommentNamed ss) CostClose
  comment_named_case ss GuardMark = each.nowhere (CommentNamed ss) GuardMark
  comment_named_case ss SquareOpen = each.nowhere (CommentNamed ss) SquareOpen
  comment_named_case ss SquareClose = each.nowhere (CommentNamed ss) SquareClose
  comment_named_case ss Disjoining = each.nowhere (CommentNamed ss) Disjoining
  comment_named_case ss (Remark bytes) = each.comment_named_remark ss bytes
  comment_named_case ss Wrong = each.nowhere (CommentNamed ss) Wrong
  comment_named_case ss Strange = each.nowhere (CommentNamed ss) Strange
