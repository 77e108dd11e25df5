-- The types of the code as plain data, and what results mean.
use Rattle.std.specs.Prelude.{◌≡◌, ℕ, List, Result, Option, Some, None, MatchResult, IfSome}
use Rattle.its_model.specs.model.Programs.{Program}
use Rattle.its_model.specs.Steps.{OtherRule, AtomFails, PastRange}
use Rattle.run_replay.specs.declared.error.RunTextError.{RunTextError}
use Rattle.run_replay.specs.Views.{refusal_in}
use Rattle.moving_check.specs.affine_turns.Turns.{AtomStops, NonlinearPlace}
use Rattle.lasso_check.specs.declared.checking_error.LassoError.{LassoError}
use Rattle.lasso_check.specs.declared.checking_error.LassoError.TheVariants as closing
use Rattle.lasso_check.specs.CheckAnswers as lasso_check
use Rattle.lasso_check.specs.Views.{lasso_of}
use Rattle.moving_check.specs.declared.error.MovingError.{MovingError}
use Rattle.moving_check.specs.declared.error.MovingError.TheVariants as moving
use Rattle.moving_check.specs.Answers.{moving_of}
use Rattle.moving_check.specs.Findings.{LeavesSymbol, PassesAt, StopsAt, ChangesAt}
use Rattle.lasso_forms.specs.declared.file.LassoFile as code
use Rattle.lasso_forms.specs.declared.file.LassoFile.TheVariants as form
use Rattle.lasso_forms.specs.declared.file.EndlessTurn as told
use Rattle.lasso_forms.specs.declared.file.EndlessTurn.TheVariants as turn
use Rattle.lasso_forms.specs.declared.error.TurnError.{TurnError}
use Rattle.lasso_forms.specs.declared.error.TurnError.TheVariants as error
use Rattle.lasso_forms.specs.Files.{LassoFile, FirstForm, SecondForm}
use Rattle.lasso_forms.specs.Texts.{IsFileText, IsFirstFault}
use Rattle.lasso_forms.specs.Turns.{EndlessTurn, Back, On, IsEndlessTurn, Obstacle, StepIsBad, TurnIsOpen, TurnStops}
use Rattle.lasso_forms.specs.Turns.{HasObstacle}

-- a lasso file as plain data
abbrev pub file_of : code.LassoFile → LassoFile
file_of (form.FirstForm l) = FirstForm (lasso_of l)
file_of (form.SecondForm l) = SecondForm (lasso_of l)

-- a result of reading is right: it is the lasso file whose text within the limits the bytes are, or exactly their first
-- fault, or memory ran out
abbrev pub Answers : Program → List ℕ → Result code.LassoFile RunTextError → Type 0
Answers p bytes result =
    MatchResult result (λ f. IsFileText p bytes (file_of f)) (λ e. IfSome (refusal_in e) (IsFirstFault p bytes))

-- a result of reading is this lasso file, unless memory ran out
abbrev pub GivesBack : LassoFile → Result code.LassoFile RunTextError → Type 0
GivesBack f result = MatchResult result (λ g. file_of g ≡ f) (λ e. refusal_in e ≡ None)

-- a turn that can be repeated, as plain data
abbrev pub turn_of : told.EndlessTurn → EndlessTurn
turn_of (turn.Back t) = Back (lasso_check.turn_of t)
turn_of (turn.On m) = On (moving_of m)

-- the obstacle that an error names, of a turn that is meant to lead back; none for want of memory
abbrev pub obstacle_to_back : LassoError → Option Obstacle
obstacle_to_back (closing.WrongRule step) = Some (StepIsBad (record { number = step; fault = OtherRule }))
obstacle_to_back (closing.GuardFails step atom) = Some (StepIsBad (record { number = step; fault = AtomFails atom }))
obstacle_to_back (closing.PassedRange step) = Some (StepIsBad (record { number = step; fault = PastRange }))
obstacle_to_back (closing.Open place) = Some (TurnIsOpen place)
obstacle_to_back closing.Memory = None

-- the obstacle that an error names, of a turn that is meant to move on; none for want of memory
abbrev pub obstacle_to_on : MovingError → Option Obstacle
obstacle_to_on (moving.WrongRule step) = Some (StepIsBad (record { number = step; fault = OtherRule }))
obstacle_to_on (moving.GuardFails step atom) = Some (StepIsBad (record { number = step; fault = AtomFails atom }))
obstacle_to_on (moving.PassedRange step) = Some (StepIsBad (record { number = step; fault = PastRange }))
obstacle_to_on moving.OtherSymbol = Some (TurnStops LeavesSymbol)
obstacle_to_on (moving.DifferencePasses place) = Some (TurnStops (PassesAt place))
obstacle_to_on (moving.AtomStops step atom) =
    Some (TurnStops (StopsAt (record { number = step; stop = AtomStops atom })))
obstacle_to_on (moving.NonlinearPlace step place) =
    Some (TurnStops (StopsAt (record { number = step; stop = NonlinearPlace place })))
obstacle_to_on (moving.DifferenceChanges place) = Some (TurnStops (ChangesAt place))
obstacle_to_on moving.Memory = None

-- the obstacle that an error names; none for want of memory
abbrev pub obstacle_in : TurnError → Option Obstacle
obstacle_in (error.FirstForm e) = obstacle_to_back e
obstacle_in (error.SecondForm e) = obstacle_to_on e

-- a result of the check is right: the turn can be repeated as it says, or the error names an obstacle, or memory ran
-- out
abbrev pub Finds : Program → LassoFile → Result told.EndlessTurn TurnError → Type 0
Finds p f result =
    MatchResult result (λ t. IsEndlessTurn p f (turn_of t)) (λ e. IfSome (obstacle_in e) (HasObstacle p f))

-- a result is this turn, unless memory ran out
abbrev pub Gives : EndlessTurn → Result told.EndlessTurn TurnError → Type 0
Gives t result = MatchResult result (λ u. turn_of u ≡ t) (λ e. obstacle_in e ≡ None)

-- a result is an error that names this obstacle, unless memory ran out
abbrev pub Refuses : Obstacle → Result told.EndlessTurn TurnError → Type 0
Refuses o result = MatchResult result (λ t. ⊥) (λ e. IfSome (obstacle_in e) (λ x. x ≡ o))
