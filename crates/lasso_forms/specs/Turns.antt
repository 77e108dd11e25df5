-- Which turns of lasso files can be repeated without end, and what prevents it.
use Rattle.std.specs.Prelude.{ℕ, List, ⊤}
use Rattle.its_model.specs.model.Programs.{Program}
use Rattle.run_replay.specs.Replays.{BadStep, IsFirstBadStep}
use Rattle.lasso_check.specs.Lassos.{both_back}
use Rattle.lasso_check.specs.Checks.{GoesRoundInRange, IsOpenAt, Turn}
use Rattle.lasso_check.specs.CheckAnswers.{IsTurn}
use Rattle.moving_check.specs.Findings.{Moving, Finding, Moves, LeavesSymbol, PassesAt, StopsAt, ChangesAt, IsFound}
use Rattle.lasso_forms.specs.Files.{LassoFile, FirstForm, SecondForm, lasso_in}

-- a turn that can be repeated: it leads back, with its rules and its cost, or it moves on, with its differences, its rules
-- and what its first turn costs
pub data EndlessTurn : Type 0 where
  Back : Turn → EndlessTurn
  On : Moving → EndlessTurn

-- the numbers of its rules
abbrev pub rules_in : EndlessTurn → List ℕ
rules_in (Back t) = t.rules
rules_in (On m) = m.rules

-- the turn of the lasso file can be repeated: it leads back, or passes the test of moving on
abbrev pub IsEndlessTurn : Program → LassoFile → EndlessTurn → Type 0
IsEndlessTurn p (FirstForm l) (Back t) = IsTurn p l t
IsEndlessTurn p (FirstForm l) (On m) = ⊥
IsEndlessTurn p (SecondForm l) (Back t) = ⊥
IsEndlessTurn p (SecondForm l) (On m) = IsFound p l (Moves m)

-- all steps of a lasso file are good, and its turn leads back, or passes the test of moving on
abbrev pub CanRepeat : Program → LassoFile → Type 0
CanRepeat p (FirstForm l) = GoesRoundInRange p l
CanRepeat p (SecondForm l) = (m : Moving) × IsFound p l (Moves m)

-- why a turn can't be repeated, or isn't shown to: its first bad step; the first place at which it doesn't lead back;
-- or the finding of a turn that fails the test of moving on
pub data Obstacle : Type 0 where
  StepIsBad : BadStep → Obstacle
  TurnIsOpen : ℕ → Obstacle
  TurnStops : Finding → Obstacle

-- a finding of a turn that fails the test of moving on
abbrev pub IsStop : Finding → Type 0
IsStop (Moves m) = ⊥
IsStop LeavesSymbol = ⊤
IsStop (PassesAt place) = ⊤
IsStop (StopsAt stop) = ⊤
IsStop (ChangesAt place) = ⊤

-- the obstacle of a lasso file's turn
abbrev pub HasObstacle : Program → LassoFile → Obstacle → Type 0
HasObstacle p f (StepIsBad bad) = IsFirstBadStep p (lasso_in f).start (both_back (lasso_in f)) bad
HasObstacle p (FirstForm l) (TurnIsOpen place) = IsOpenAt p l place
HasObstacle p (SecondForm l) (TurnIsOpen place) = ⊥
HasObstacle p (FirstForm l) (TurnStops found) = ⊥
HasObstacle p (SecondForm l) (TurnStops found) = IsFound p l found × IsStop found
