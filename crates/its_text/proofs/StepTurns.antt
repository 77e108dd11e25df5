-- Each step of a program's text keeps the limits: what was read is within them after the step exactly if it was before
-- and the state is quiet (it shows no fault at the next token).
use Rattle.std.proofs.Common.{List, Option, codes, refl}
use Rattle.expr_text.specs.text_core.Names.{is_same}
use Rattle.its_text.specs.Pieces.{Piece, word}
use Rattle.its_text.specs.GrammarStates.{GrammarState, GoalNamed, GoalRead, StartOpened, StartListed}
use Rattle.its_text.specs.Steps.{step}
use Rattle.its_text.proofs.SectionTurns.{Turns, when_turns, goal_done, start_done, variables_done, comment_done}
use Rattle.its_text.proofs.SectionTurns.{named_turns}
use Rattle.its_text.proofs.LeftTurns.{ruled_turns, left_opened_turns, left_closed_turns, left_comma_turns}
use Rattle.its_text.proofs.LeftTurns.{left_closed_then_turns, left_parted_turns, arrowed_turns, com_opened_turns}
use Rattle.its_text.proofs.LeftTurns.{target_opened_turns}
use Rattle.its_text.proofs.CostTurns.{arrow_turns, cost_turns, costing_turns, cost_closed_turns}
use Rattle.its_text.proofs.ArgumentTurns.{opened_turns, arguing_turns, parted_turns, right_closed_turns}
use Rattle.its_text.proofs.RuleTurns.{targeted_turns, marks_turns, square_turns}
use Rattle.its_text.proofs.RuleTurns.{mark_guarding_turns, square_opened_turns, square_closed_turns}
use Rattle.its_text.proofs.RuleTurns.{square_guarding_turns, square_ended_turns}
use Rattle.its_text.proofs.WordTurns.{guard_marked_turns, word_read_turns}
use Rattle.its_text.proofs.StepCases.{HoldsOfSteps}
use Rattle.its_text.proofs.EveryStep.{of_step}

-- the pieces read are within the limits exactly if they were before the step and the state is quiet
abbrev TurnsOn : GrammarState → Piece → Option GrammarState → Type 0
TurnsOn f p o = (ps : List Piece) → Turns f p ps o

-- Each accepting step keeps the limits exactly if the state is quiet.
turns_each : HoldsOfSteps TurnsOn
turns_each = record {
  nowhere = λ f p ps. tt;
  between_open = λ ss ps. (λ h. h, λ h. h);
  opened_word = λ ss name ps. named_turns ss name ps;
  goal_named_word = λ ss name ps. when_turns (is_same name (codes "COMPLEXITY")) (GoalNamed ss) (word name) ps (GoalRead ss) (λ h. (h, tt), λ h. h.0);
  goal_said_close = λ ss ps. (λ h. ((goal_done ss).0 h, tt), λ h. (goal_done ss).1 h.0);
  start_named_open = λ ss ps. (λ h. (h, tt), λ h. h.0);
  start_opened_word = λ ss name ps. when_turns (is_same name (codes "FUNCTIONSYMBOLS")) (StartOpened ss) (word name) ps (StartListed ss) (λ h. (h, tt), λ h. h.0);
  start_listed_word = λ ss name ps. (λ h. (h, tt), λ h. h.0);
  start_said_close = λ ss start ps. (λ h. (h, tt), λ h. h.0);
  start_closed_close = λ ss start ps. (λ h. ((start_done ss start).0 h, tt), λ h. (start_done ss start).1 h.0);
  listing_word = λ ss names name ps. (λ h. (h, tt), λ h. h.0);
  listing_close = λ ss names ps. (λ h. ((variables_done ss names).0 h, tt), λ h. (variables_done ss names).1 h.0);
  comment_named_remark = λ ss bytes ps. (λ h. ((comment_done ss bytes).0 h, tt), λ h. (comment_done ss bytes).1 h.0);
  ruled_piece = λ r p ps. ruled_turns r p ps;
  source_named_open = λ r source ps. (λ h. (h, tt), λ h. h.0);
  left_opened_word = λ r source name ps. left_opened_turns r source name ps;
  left_opened_close = λ r source ps. left_closed_turns r source ps;
  left_read_comma = λ r source a earlier ps. left_comma_turns r source a earlier ps;
  left_read_close = λ r source a earlier ps. left_closed_then_turns r source a earlier ps;
  left_parted_word = λ r source a earlier name ps. left_parted_turns r source a name earlier ps;
  left_closed_arrow = λ r t ps. arrow_turns r t ps;
  left_closed_cost = λ r t ps. cost_turns r t ps;
  costing_piece = λ r t e p ps. costing_turns r t e p ps;
  costing_close = λ r t e ps. cost_closed_turns r t e ps;
  arrowed_word = λ l name ps. arrowed_turns l name ps (is_same name (codes "Com_1")) refl;
  com_named_open = λ l ps. (λ h. (h, tt), λ h. h.0);
  com_opened_word = λ l name ps. com_opened_turns l name ps;
  target_named_open = λ a ps. target_opened_turns a ps;
  right_opened_piece = λ a p ps. opened_turns a p ps;
  in_argument_piece = λ a arguments e p ps. arguing_turns a arguments e p ps;
  in_argument_comma = λ a arguments e ps. parted_turns a arguments e ps;
  right_closed_close = λ l t ps. right_closed_turns l t ps;
  targeted_piece = λ h p ps. targeted_turns h p ps;
  targeted_mark = λ h ps. marks_turns h ps;
  targeted_square = λ h ps. square_turns h ps;
  guard_marked_piece = λ h p ps. guard_marked_turns h p ps;
  word_read_piece = λ h name p ps. word_read_turns h name p ps;
  mark_guarding_piece = λ h g p ps. mark_guarding_turns h g p ps;
  square_opened_piece = λ h p ps. square_opened_turns h p ps;
  square_opened_square_close = λ h ps. square_closed_turns h ps;
  square_guarding_piece = λ h g p ps. square_guarding_turns h g p ps;
  square_guarding_square_close = λ h g ps. square_ended_turns h g ps;
}

-- Each step keeps the limits exactly if the state is quiet.
pub turns : (f : GrammarState) (p : Piece) (ps : List Piece) → Turns f p ps (step f p)
turns f p ps = of_step TurnsOn turns_each f p ps
