-- A property of each accepting step and of each rejection is one of every step, and a text can end only between
-- sections.
use Rattle.std.proofs.Common.{◌≡◌, List, Option, Some, ap}
use Rattle.its_text.specs.Pieces.{Piece}
use Rattle.its_text.specs.GrammarStates.{GrammarState, Between, Opened, GoalNamed, GoalRead, StartNamed, StartOpened, StartListed}
use Rattle.its_text.specs.GrammarStates.{StartRead, StartClosed, Listing, CommentNamed}
use Rattle.its_text.specs.GrammarStates.{AfterRule, SourceNamed, LeftOpened, LeftRead, LeftParted, SourceClosed, Costing, Arrowed}
use Rattle.its_text.specs.GrammarStates.{ComNamed, ComOpened, TargetNamed, RightOpened, Arguing, TargetClosed, Targeted}
use Rattle.its_text.specs.GrammarStates.{GuardMarked, WordRead, MarkGuarding, SquareOpened, SquareGuarding}
use Rattle.its_text.specs.Written.{Section}
use Rattle.its_text.specs.Steps.{step, finish}
use Rattle.its_text.proofs.StepCases.{HoldsOfSteps}
use Rattle.its_text.proofs.SectionCases.{between_case, opened_case, goal_named_case, goal_said_case, start_named_case}
use Rattle.its_text.proofs.SectionCases.{start_opened_case, start_listed_case, start_said_case, start_closed_case}
use Rattle.its_text.proofs.SectionCases.{listing_case, comment_named_case}
use Rattle.its_text.proofs.SourceCases.{ruled_case, source_named_case, left_opened_case, left_read_case}
use Rattle.its_text.proofs.SourceCases.{left_parted_case, left_closed_case, costing_case}
use Rattle.its_text.proofs.RuleCases.{arrowed_case, com_named_case, com_opened_case, target_named_case}
use Rattle.its_text.proofs.RuleCases.{right_opened_case, in_argument_case, right_closed_case, targeted_case}
use Rattle.its_text.proofs.RuleCases.{guard_marked_case, word_read_case, mark_guarding_case, square_opened_case}
use Rattle.its_text.proofs.RuleCases.{square_guarding_case}

module _ (P : GrammarState → Piece → Option GrammarState → Type 0) (each : HoldsOfSteps P) where
  -- The property holds of every step, by the state before the step.
  pub of_step : (f : GrammarState) (p : Piece) → P f p (step f p)
  of_step (Between ss) p = between_case P each ss p
  of_step (Opened ss) p = opened_case P each ss p
  of_step (GoalNamed ss) p = goal_named_case P each ss p
  of_step (GoalRead ss) p = goal_said_case P each ss p
  of_step (StartNamed ss) p = start_named_case P each ss p
  of_step (StartOpened ss) p = start_opened_case P each ss p
  of_step (StartListed ss) p = start_listed_case P each ss p
  of_step (StartRead ss start) p = start_said_case P each ss start p
  of_step (StartClosed ss start) p = start_closed_case P each ss start p
  of_step (Listing ss names) p = listing_case P each ss names p
  of_step (CommentNamed ss) p = comment_named_case P each ss p
  of_step (AfterRule r) p = ruled_case P each r p
  of_step (SourceNamed r source) p = source_named_case P each r source p
  of_step (LeftOpened r source) p = left_opened_case P each r source p
  of_step (LeftRead r source a earlier) p = left_read_case P each r source a earlier p
  of_step (LeftParted r source a earlier) p = left_parted_case P each r source a earlier p
  of_step (SourceClosed r t) p = left_closed_case P each r t p
  of_step (Costing r t e) p = costing_case P each r t e p
  of_step (Arrowed l) p = arrowed_case P each l p
  of_step (ComNamed l) p = com_named_case P each l p
  of_step (ComOpened l) p = com_opened_case P each l p
  of_step (TargetNamed a) p = target_named_case P each a p
  of_step (RightOpened a) p = right_opened_case P each a p
  of_step (Arguing a arguments e) p = in_argument_case P each a arguments e p
  of_step (TargetClosed l t) p = right_closed_case P each l t p
  of_step (Targeted h) p = targeted_case P each h p
  of_step (GuardMarked h) p = guard_marked_case P each h p
  of_step (WordRead h name) p = word_read_case P each h name p
  of_step (MarkGuarding h g) p = mark_guarding_case P each h g p
  of_step (SquareOpened h) p = square_opened_case P each h p
  of_step (SquareGuarding h g) p = square_guarding_case P each h g p

-- if a text can end in a state, the state has its sections
pub ended : (f : GrammarState) (ss : List Section) → finish f ≡ Some ss → f ≡ Between ss
ended (Between ts) ss same = let e : ts ≡ ss = cc in ap Between e
ended (Opened ts) ss same = cc
ended (GoalNamed ts) ss same = cc
ended (GoalRead ts) ss same = cc
ended (StartNamed ts) ss same = cc
ended (StartOpened ts) ss same = cc
ended (StartListed ts) ss same = cc
ended (StartRead ts start) ss same = cc
ended (StartClosed ts start) ss same = cc
ended (Listing ts names) ss same = cc
ended (CommentNamed ts) ss same = cc
ended (AfterRule r) ss same = cc
ended (SourceNamed r source) ss same = cc
ended (LeftOpened r source) ss same = cc
ended (LeftRead r source a earlier) ss same = cc
ended (LeftParted r source a earlier) ss same = cc
ended (SourceClosed r t) ss same = cc
ended (Costing r t e) ss same = cc
ended (Arrowed l) ss same = cc
ended (ComNamed l) ss same = cc
ended (ComOpened l) ss same = cc
ended (TargetNamed a) ss same = cc
ended (RightOpened a) ss same = cc
ended (Arguing a arguments e) ss same = cc
ended (TargetClosed l t) ss same = cc
ended (Targeted h) ss same = cc
ended (GuardMarked h) ss same = cc
ended (WordRead h name) ss same = cc
ended (MarkGuarding h g) ss same = cc
ended (SquareOpened h) ss same = cc
ended (SquareGuarding h g) ss same = cc
