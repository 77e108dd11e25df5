-- The turn of a lasso file can be repeated as one turn at most, or has one obstacle at most, and not both.
use Rattle.std.proofs.Common.{◌≡◌, ℕ, refl, sym, ap, subst, Option, Some, None}
use Rattle.std.specs.Prelude.{Result, Ok, Err, IfSome}
use Rattle.its_model.specs.model.Programs.{Program}
use Rattle.run_replay.specs.ReplayLaws.{ReplaysAreDecided}
use Rattle.run_replay.specs.Replays.{BadStep, IsFirstBadStep}
use Rattle.lasso_check.specs.Lassos.{Lasso, both_back}
use Rattle.lasso_check.specs.Checks.{Turn}
use Rattle.lasso_check.specs.CheckAnswers as lasso_check
use Rattle.lasso_check.specs.declared.checking_error.LassoError.{LassoError}
use Rattle.lasso_check.specs.declared.checking_error.LassoError.TheVariants as closing
use Rattle.lasso_check.proofs.Verdicts.{turn-unique, round_not_open, round_not_bad, open_not_bad, open-unique}
use Rattle.moving_check.specs.Findings.{Moving, Finding, Moves, Found, IsFound}
use Rattle.moving_check.specs.Answers as moving_check
use Rattle.moving_check.specs.declared.error.MovingError.{MovingError}
use Rattle.moving_check.specs.declared.error.MovingError.TheVariants as moving
use Rattle.moving_check.proofs.Verdicts.{verdict-unique}
use Rattle.lasso_forms.specs.declared.file.EndlessTurn as told
use Rattle.lasso_forms.specs.declared.error.TurnError.{TurnError}
use Rattle.lasso_forms.specs.Files.{LassoFile, FirstForm, SecondForm}
use Rattle.lasso_forms.specs.Laws.{TurnsAreDecided}
use Rattle.lasso_forms.specs.Turns.{EndlessTurn, Back, On, IsEndlessTurn, CanRepeat, Obstacle, StepIsBad, TurnIsOpen, TurnStops}
use Rattle.lasso_forms.specs.Turns.{IsStop, HasObstacle}
use Rattle.lasso_forms.specs.Views.{turn_of, obstacle_to_back, obstacle_to_on, obstacle_in, Finds, Gives, Refuses}

-- findings whose verdicts are equal are equal
same_finding : (f g : Finding) → Found f ≡ Found g → f ≡ g
same_finding f g e = cc

same_moving : (m n : Moving) → Found (Moves m) ≡ Found (Moves n) → m ≡ n
same_moving m n e = cc

module _ (law : ReplaysAreDecided) (p : Program) where
  -- a lasso with a finding has no bad step
  found_not_bad : (l : Lasso) (g : Finding) (b : BadStep) → IsFound p l g → IsFirstBadStep p l.start (both_back l) b → ⊥
  found_not_bad l g b h k = law.none_bad p l.start (both_back l) b (h.behind, h.whole) k

  one_turn : (f : LassoFile) (t u : EndlessTurn) → IsEndlessTurn p f t → IsEndlessTurn p f u → t ≡ u
  one_turn (FirstForm l) (Back t) (Back u) h k = ap (λ (x : Turn). Back x) (turn-unique law p l t u h k)
  one_turn (FirstForm l) (Back t) (On m) h k = absurd k
  one_turn (FirstForm l) (On m) u h k = absurd h
  one_turn (SecondForm l) (Back t) u h k = absurd h
  one_turn (SecondForm l) (On m) (Back u) h k = absurd k
  one_turn (SecondForm l) (On m) (On n) h k =
      ap (λ (x : Moving). On x) (same_moving m n (verdict-unique law p l (Found (Moves m)) (Found (Moves n)) h k))

  can_repeat : (f : LassoFile) (t : EndlessTurn) → IsEndlessTurn p f t → CanRepeat p f
  can_repeat (FirstForm l) (Back t) h = h.round
  can_repeat (FirstForm l) (On m) h = absurd h
  can_repeat (SecondForm l) (Back t) h = absurd h
  can_repeat (SecondForm l) (On m) h = (m, h)

  one_obstacle : (f : LassoFile) (o q : Obstacle) → HasObstacle p f o → HasObstacle p f q → o ≡ q
  one_obstacle (FirstForm l) (StepIsBad a) (StepIsBad b) h k =
      ap (λ (x : BadStep). StepIsBad x) (law.one_bad p l.start (both_back l) a b h k)
  one_obstacle (FirstForm l) (StepIsBad a) (TurnIsOpen n) h k = absurd (open_not_bad law p l n a k h)
  one_obstacle (FirstForm l) (StepIsBad a) (TurnStops g) h k = absurd k
  one_obstacle (FirstForm l) (TurnIsOpen m) (StepIsBad b) h k = absurd (open_not_bad law p l m b h k)
  one_obstacle (FirstForm l) (TurnIsOpen m) (TurnIsOpen n) h k =
      ap (λ (x : ℕ). TurnIsOpen x) (open-unique law p l m n h k)
  one_obstacle (FirstForm l) (TurnIsOpen m) (TurnStops g) h k = absurd k
  one_obstacle (FirstForm l) (TurnStops f) q h k = absurd h
  one_obstacle (SecondForm l) (StepIsBad a) (StepIsBad b) h k =
      ap (λ (x : BadStep). StepIsBad x) (law.one_bad p l.start (both_back l) a b h k)
  one_obstacle (SecondForm l) (StepIsBad a) (TurnIsOpen n) h k = absurd k
  one_obstacle (SecondForm l) (StepIsBad a) (TurnStops g) h k = absurd (found_not_bad l g a k.0 h)
  one_obstacle (SecondForm l) (TurnIsOpen m) q h k = absurd h
  one_obstacle (SecondForm l) (TurnStops f) (StepIsBad b) h k = absurd (found_not_bad l f b h.0 k)
  one_obstacle (SecondForm l) (TurnStops f) (TurnIsOpen n) h k = absurd k
  one_obstacle (SecondForm l) (TurnStops f) (TurnStops g) h k =
      ap (λ (x : Finding). TurnStops x) (same_finding f g (verdict-unique law p l (Found f) (Found g) h.0 k.0))

  no_obstacle : (f : LassoFile) (o : Obstacle) → CanRepeat p f → ¬ (HasObstacle p f o)
  no_obstacle (FirstForm l) (StepIsBad b) round h = round_not_bad law p l b round h
  no_obstacle (FirstForm l) (TurnIsOpen n) round h = round_not_open law p l n round h
  no_obstacle (FirstForm l) (TurnStops g) round h = h
  no_obstacle (SecondForm l) (StepIsBad b) (m, found) h = found_not_bad l (Moves m) b found h
  no_obstacle (SecondForm l) (TurnIsOpen n) (m, found) h = h
  no_obstacle (SecondForm l) (TurnStops g) (m, found) h =
      subst IsStop (sym (same_finding (Moves m) g (verdict-unique law p l (Found (Moves m)) (Found g) found h.0))) h.1

pub turns_decided : ReplaysAreDecided → TurnsAreDecided
turns_decided law = record {
  one = λ p f t u h k. one_turn law p f t u h k;
  repeats = λ p f t h. can_repeat law p f t h;
  one_obstacle = λ p f o q h k. one_obstacle law p f o q h k;
  apart = λ p f o can h. no_obstacle law p f o can h;
}

-- an error that is right by the check of a form names an obstacle of the lasso file of that form
pub back_refused : (p : Program) (l : Lasso) (e : LassoError) → lasso_check.Refuses p l e
    → IfSome (obstacle_to_back e) (HasObstacle p (FirstForm l))
back_refused p l (closing.WrongRule step) h = h
back_refused p l (closing.GuardFails step atom) h = h
back_refused p l (closing.PassedRange step) h = h
back_refused p l (closing.Open place) h = h
back_refused p l closing.Memory h = tt

pub on_refused : (p : Program) (l : Lasso) (e : MovingError) → moving_check.Refuses p l e
    → IfSome (obstacle_to_on e) (HasObstacle p (SecondForm l))
on_refused p l (moving.WrongRule step) h = h
on_refused p l (moving.GuardFails step atom) h = h
on_refused p l (moving.PassedRange step) h = h
on_refused p l moving.OtherSymbol h = (h, tt)
on_refused p l (moving.DifferencePasses place) h = (h, tt)
on_refused p l (moving.AtomStops step atom) h = (h, tt)
on_refused p l (moving.NonlinearPlace step place) h = (h, tt)
on_refused p l (moving.DifferenceChanges place) h = (h, tt)
on_refused p l moving.Memory h = tt

-- a right result is the turn that can be repeated, if there is one, or says that memory ran out
pub turn_given : TurnsAreDecided → (p : Program) (f : LassoFile) (t : EndlessTurn) → IsEndlessTurn p f t
    → (result : Result told.EndlessTurn TurnError) → Finds p f result → Gives t result
turn_given law p f t h (Ok u) k = law.one p f (turn_of u) t k h
turn_given law p f t h (Err e) k = go (obstacle_in e) k
  where
    go : (o : Option Obstacle) → IfSome o (HasObstacle p f) → o ≡ None
    go None k = refl
    go (Some o) k = absurd (law.apart p f o (law.repeats p f t h) k)

-- a right result names the obstacle, if there is one, or says that memory ran out
pub obstacle_given : TurnsAreDecided → (p : Program) (f : LassoFile) (o : Obstacle) → HasObstacle p f o
    → (result : Result told.EndlessTurn TurnError) → Finds p f result → Refuses o result
obstacle_given law p f o h (Ok u) k = law.apart p f o (law.repeats p f (turn_of u) k) h
obstacle_given law p f o h (Err e) k = go (obstacle_in e) k
  where
    go : (q : Option Obstacle) → IfSome q (HasObstacle p f) → IfSome q (λ x. x ≡ o)
    go None k = tt
    go (Some q) k = law.one_obstacle p f q o k h
