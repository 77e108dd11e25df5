-- A property of each accepting step and of each rejection is one of each step in the rules up to an arrow, with its
-- cost.
use Rattle.std.specs.Prelude.{List, Option}
use Rattle.expr_text.specs.model.Programs.{Name}
use Rattle.expr_text.specs.Pieces as inner
use Rattle.expr_text.specs.GrammarStates as expression
use Rattle.its_text.specs.Pieces.{Piece, In, Comma, Arrow, CostOpen, CostClose, GuardMark, SquareOpen, SquareClose}
use Rattle.its_text.specs.Pieces.{Disjoining, Remark, Wrong, Strange}
use Rattle.its_text.specs.Written.{LeftTerm}
use Rattle.its_text.specs.GrammarStates.{GrammarState, Ruling, AfterRule, SourceNamed, LeftOpened, LeftRead}
use Rattle.its_text.specs.GrammarStates.{LeftParted, SourceClosed, Costing}
use Rattle.its_text.specs.Steps.{step}
use Rattle.its_text.proofs.StepCases.{HoldsOfSteps}

module _ (P : GrammarState → Piece → Option GrammarState → Type 0) (each : HoldsOfSteps P) where
  -- the steps after `(RULES` and whole rules
  pub ruled_case : (r : Ruling) (p : Piece) → P (AfterRule r) p (step (AfterRule r) p)
  ruled_case r (In p) = each.ruled_piece r p
  ruled_case r Comma = each.nowhere (AfterRule r) Comma
  ruled_case r Arrow = each.nowhere (AfterRule r) Arrow
  ruled_case r CostOpen = each.nowhere (AfterRule r) CostOpen
  ruled_case r CostClose = each.nowhere (AfterRule r) CostClose
  ruled_case r GuardMark = each.nowhere (AfterRule r) GuardMark
  ruled_case r SquareOpen = each.nowhere (AfterRule r) SquareOpen
  ruled_case r SquareClose = each.nowhere (AfterRule r) SquareClose
  ruled_case r Disjoining = each.nowhere (AfterRule r) Disjoining
  ruled_case r (Remark bytes) = each.nowhere (AfterRule r) (Remark bytes)
  ruled_case r Wrong = each.nowhere (AfterRule r) Wrong
  ruled_case r Strange = each.nowhere (AfterRule r) Strange

  -- the steps after a rule's source
  pub source_named_case : (r : Ruling) (source : Name) (p : Piece)
      → P (SourceNamed r source) p (step (SourceNamed r source) p)
  source_named_case r source (In (inner.Word name)) = each.nowhere (SourceNamed r source) (In (inner.Word name))
  source_named_case r source (In (inner.Digits ds)) = each.nowhere (SourceNamed r source) (In (inner.Digits ds))
  source_named_case r source (In inner.Open) = each.source_named_open r source
  source_named_case r source (In inner.Close) = each.nowhere (SourceNamed r source) (In inner.Close)
  source_named_case r source (In inner.Plus) = each.nowhere (SourceNamed r source) (In inner.Plus)
  source_named_case r source (In inner.Minus) = each.nowhere (SourceNamed r source) (In inner.Minus)
  source_named_case r source (In inner.Times) = each.nowhere (SourceNamed r source) (In inner.Times)
  source_named_case r source (In inner.Caret) = each.nowhere (SourceNamed r source) (In inner.Caret)
  source_named_case r source (In (inner.Related sign)) = each.nowhere (SourceNamed r source) (In (inner.Related sign))
  source_named_case r source (In (inner.Joining joint)) = each.nowhere (SourceNamed r source) (In (inner.Joining joint))
  source_named_case r source Comma = each.nowhere (SourceNamed r source) Comma
  source_named_case r source Arrow = each.nowhere (SourceNamed r source) Arrow
  source_named_case r source CostOpen = each.nowhere (SourceNamed r source) CostOpen
  source_named_case r source CostClose = each.nowhere (SourceNamed r source) CostClose
  source_named_case r source GuardMark = each.nowhere (SourceNamed r source) GuardMark
  source_named_case r source SquareOpen = each.nowhere (SourceNamed r source) SquareOpen
  source_named_case r source SquareClose = each.nowhere (SourceNamed r source) SquareClose
  source_named_case r source Disjoining = each.nowhere (SourceNamed r source) Disjoining
  source_named_case r source (Remark bytes) = each.nowhere (SourceNamed r source) (Remark bytes)
  source_named_case r source Wrong = each.nowhere (SourceNamed r source) Wrong
  source_named_case r source Strange = each.nowhere (SourceNamed r source) Strange

  -- the steps after the bracket that opens left arguments
  pub left_opened_case : (r : Ruling) (source : Name) (p : Piece)
      → P (LeftOpened r source) p (step (LeftOpened r source) p)
  left_opened_case r source (In (inner.Word name)) = each.left_opened_word r source name
  left_opened_case r source (In (inner.Digits ds)) = each.nowhere (LeftOpened r source) (In (inner.Digits ds))
  left_opened_case r source (In inner.Open) = each.nowhere (LeftOpened r source) (In inner.Open)
  left_opened_case r source (In inner.Close) = each.left_opened_close r source
  left_opened_case r source (In inner.Plus) = each.nowhere (LeftOpened r source) (In inner.Plus)
  left_opened_case r source (In inner.Minus) = each.nowhere (LeftOpened r source) (In inner.Minus)
  left_opened_case r source (In inner.Times) = each.nowhere (LeftOpened r source) (In inner.Times)
  left_opened_case r source (In inner.Caret) = each.nowhere (LeftOpened r source) (In inner.Caret)
  left_opened_case r source (In (inner.Related sign)) = each.nowhere (LeftOpened r source) (In (inner.Related sign))
  left_opened_case r source (In (inner.Joining joint)) = each.nowhere (LeftOpened r source) (In (inner.Joining joint))
  left_opened_case r source Comma = each.nowhere (LeftOpened r source) Comma
  left_opened_case r source Arrow = each.nowhere (LeftOpened r source) Arrow
  left_opened_case r source CostOpen = each.nowhere (LeftOpened r source) CostOpen
  left_opened_case r source CostClose = each.nowhere (LeftOpened r source) CostClose
  left_opened_case r source GuardMark = each.nowhere (LeftOpened r source) GuardMark
  left_opened_case r source SquareOpen = each.nowhere (LeftOpened r source) SquareOpen
  left_opened_case r source SquareClose = each.nowhere (LeftOpened r source) SquareClose
  left_opened_case r source Disjoining = each.nowhere (LeftOpened r source) Disjoining
  left_opened_case r source (Remark bytes) = each.nowhere (LeftOpened r source) (Remark bytes)
  left_opened_case r source Wrong = each.nowhere (LeftOpened r source) Wrong
  left_opened_case r source Strange = each.nowhere (LeftOpened r source) Strange

  -- the steps after a left argument
  pub left_read_case : (r : Ruling) (source a : Name) (earlier : List Name) (p : Piece)
      → P (LeftRead r source a earlier) p (step (LeftRead r source a earlier) p)
  left_read_case r source a earlier (In (inner.Word name)) = each.nowhere (LeftRead r source a earlier) (In (inner.Word name))
  left_read_case r source a earlier (In (inner.Digits ds)) = each.nowhere (LeftRead r source a earlier) (In (inner.Digits ds))
  left_read_case r source a earlier (In inner.Open) = each.nowhere (LeftRead r source a earlier) (In inner.Open)
  left_read_case r source a earlier (In inner.Close) = each.left_read_close r source a earlier
  left_read_case r source a earlier (In inner.Plus) = each.nowhere (LeftRead r source a earlier) (In inner.Plus)
  left_read_case r source a earlier (In inner.Minus) = each.nowhere (LeftRead r source a earlier) (In inner.Minus)
  left_read_case r source a earlier (In inner.Times) = each.nowhere (LeftRead r source a earlier) (In inner.Times)
  left_read_case r source a earlier (In inner.Caret) = each.nowhere (LeftRead r source a earlier) (In inner.Caret)
  left_read_case r source a earlier (In (inner.Related sign)) = each.nowhere (LeftRead r source a earlier) (In (inner.Related sign))
  left_read_case r source a earlier (In (inner.Joining joint)) = each.nowhere (LeftRead r source a earlier) (In (inner.Joining joint))
  left_read_case r source a earlier Comma = each.left_read_comma r source a earlier
  left_read_case r source a earlier Arrow = each.nowhere (LeftRead r source a earlier) Arrow
  left_read_case r source a earlier CostOpen = each.nowhere (LeftRead r source a earlier) CostOpen
  left_read_case r source a earlier CostClose = each.nowhere (LeftRead r source a earlier) CostClose
  left_read_case r source a earlier GuardMark = each.nowhere (LeftRead r source a earlier) GuardMark
  left_read_case r source a earlier SquareOpen = each.nowhere (LeftRead r source a earlier) SquareOpen
  left_read_case r source a earlier SquareClose = each.nowhere (LeftRead r source a earlier) SquareClose
  left_read_case r source a earlier Disjoining = each.nowhere (LeftRead r source a earlier) Disjoining
  left_read_case r source a earlier (Remark bytes) = each.nowhere (LeftRead r source a earlier) (Remark bytes)
  left_read_case r source a earlier Wrong = each.nowhere (LeftRead r source a earlier) Wrong
  left_read_case r source a earlier Strange = each.nowhere (LeftRead r source a earlier) Strange

  -- the steps after the comma after a left argument
  pub left_parted_case : (r : Ruling) (source a : Name) (earlier : List Name) (p : Piece)
      → P (LeftParted r source a earlier) p (step (LeftParted r source a earlier) p)
  left_parted_case r source a earlier (In (inner.Word name)) = each.left_parted_word r source a earlier name
  left_parted_case r source a earlier (In (inner.Digits ds)) = each.nowhere (LeftParted r source a earlier) (In (inner.Digits ds))
  left_parted_case r source a earlier (In inner.Open) = each.nowhere (LeftParted r source a earlier) (In inner.Open)
  left_parted_case r source a earlier (In inner.Close) = each.nowhere (LeftParted r source a earlier) (In inner.Close)
  left_parted_case r source a earlier (In inner.Plus) = each.nowhere (LeftParted r source a earlier) (In inner.Plus)
  left_parted_case r source a earlier (In inner.Minus) = each.nowhere (LeftParted r source a earlier) (In inner.Minus)
  left_parted_case r source a earlier (In inner.Times) = each.nowhere (LeftParted r source a earlier) (In inner.Times)
  left_parted_case r source a earlier (In inner.Caret) = each.nowhere (LeftParted r source a earlier) (In inner.Caret)
  left_parted_case r source a earlier (In (inner.Related sign)) = each.nowhere (LeftParted r source a earlier) (In (inner.Related sign))
  left_parted_case r source a earlier (In (inner.Joining joint)) = each.nowhere (LeftParted r source a earlier) (In (inner.Joining joint))
  left_parted_case r source a earlier Comma = each.nowhere (LeftParted r source a earlier) Comma
  left_parted_case r source a earlier Arrow = each.nowhere (LeftParted r source a earlier) Arrow
  left_parted_case r source a earlier CostOpen = each.nowhere (LeftParted r source a earlier) CostOpen
  left_parted_case r source a earlier CostClose = each.nowhere (LeftParted r source a earlier) CostClose
  left_parted_case r source a earlier GuardMark = each.nowhere (LeftParted r source a earlier) GuardMark
  left_parted_case r source a earlier SquareOpen = each.nowhere (LeftParted r source a earlier) SquareOpen
  left_parted_case r source a earlier SquareClose = each.nowhere (LeftParted r source a earlier) SquareClose
  left_parted_case r source a earlier Disjoining = each.nowhere (LeftParted r source a earlier) Disjoining
  left_parted_case r source a earlier (Remark bytes) = each.nowhere (LeftParted r source a earlier) (Remark bytes)
  left_parted_case r source a earlier Wrong = each.nowhere (LeftParted r source a earlier) Wrong
  left_parted_case r source a earlier Strange = each.nowhere (LeftParted r source a earlier) Strange

  -- the steps after the left term
  pub left_closed_case : (r : Ruling) (t : LeftTerm) (p : Piece) → P (SourceClosed r t) p (step (SourceClosed r t) p)
  left_closed_case r t (In (inner.Word name)) = each.nowhere (SourceClosed r t) (In (inner.Word name))
  left_closed_case r t (In (inner.Digits ds)) = each.nowhere (SourceClosed r t) (In (inner.Digits ds))
  left_closed_case r t (In inner.Open) = each.nowhere (SourceClosed r t) (In inner.Open)
  left_closed_case r t (In inner.Close) = each.nowhere (SourceClosed r t) (In inner.Close)
  left_closed_case r t (In inner.Plus) = each.nowhere (SourceClosed r t) (In inner.Plus)
  left_closed_case r t (In inner.Minus) = each.nowhere (SourceClosed r t) (In inner.Minus)
  left_closed_case r t (In inner.Times) = each.nowhere (SourceClosed r t) (In inner.Times)
  left_closed_case r t (In inner.Caret) = each.nowhere (SourceClosed r t) (In inner.Caret)
  left_closed_case r t (In (inner.Related sign)) = each.nowhere (SourceClosed r t) (In (inner.Related sign))
  left_closed_case r t (In (inner.Joining joint)) = each.nowhere (SourceClosed r t) (In (inner.Joining joint))
  left_closed_case r t Comma = each.nowhere (SourceClosed r t) Comma
  left_closed_case r t Arrow = each.left_closed_arrow r t
  left_closed_case r t CostOpen = each.left_closed_cost r t
  left_closed_case r t CostClose = each.nowhere (SourceClosed r t) CostClose
  left_closed_case r t GuardMark = each.nowhere (SourceClosed r t) GuardMark
  left_closed_case r t SquareOpen = each.nowhere (SourceClosed r t) SquareOpen
  left_closed_case r t SquareClose = each.nowhere (SourceClosed r t) SquareClose
  left_closed_case r t Disjoining = each.nowhere (SourceClosed r t) Disjoining
  left_closed_case r t (Remark bytes) = each.nowhere (SourceClosed r t) (Remark bytes)
  left_closed_case r t Wrong = each.nowhere (SourceClosed r t) Wrong
  left_closed_case r t Strange = each.nowhere (SourceClosed r t) Strange

  -- The steps within a cost.
  pub costing_case : (r : Ruling) (t : LeftTerm) (e : expression.GrammarState) (p : Piece)
      → P (Costing r t e) p (step (Costing r t e) p)
  costing_case r t e (In p) = each.costing_piece r t e p
  costing_case r t e Comma = each.nowhere (Costing r t e) Comma
  costing_case r t e Arrow = each.nowhere (Costing r t e) Arrow
  costing_case r t e CostOpen = each.nowhere (Costing r t e) CostOpen
  costing_case r t e CostClose = each.costing_close r t e
  costing_case r t e GuardMark = each.nowhere (Costing r t e) GuardMark
  costing_case r t e SquareOpen = each.nowhere (Costing r t e) SquareOpen
  costing_case r t e SquareClose = each.nowhere (Costing r t e) SquareClose
  costing_case r t e Disjoining = each.nowhere (Costing r t e) Disjoining
  costing_case r t e (Remark bytes) = each.nowhere (Costing r t e) (Remark bytes)
  costing_case r t e Wrong = each.nowhere (Costing r t e) Wrong
  costing_case r t e Strange = each.nowhere (Costing r t e) Strange
