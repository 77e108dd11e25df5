-- Which verdicts on a lasso are right, and what a result means.
use Rattle.std.specs.Prelude.{◌≡◌, ◌+◌, ◌<◌, ◌≤◌, ℕ, List, length, take, map, reverse, Bool, Result, Option, Some, None}
use Rattle.std.specs.Prelude.{MatchResult, IfSome}
use Rattle.its_model.specs.model.Programs.{Program}
use Rattle.its_model.specs.model.Runs.{Config, Step}
use Rattle.its_model.specs.model.Spending.{spent_all}
use Rattle.its_model.specs.Steps.{OtherRule, AtomFails, PastRange}
use Rattle.its_model.specs.Views.{config_of}
use Rattle.bound_expr.specs.Capped.{capped}
use Rattle.run_replay.specs.declared.walk.Walk.{Walk}
use Rattle.run_replay.specs.Runs.{Run}
use Rattle.run_replay.specs.Replays.{RunsInRange, IsFirstBadStep, rule_numbers}
use Rattle.run_replay.specs.ReplayAnswers.{first_steps, CanWalk}
use Rattle.lasso_check.specs.declared.checking_error.LassoError.{LassoError}
use Rattle.lasso_check.specs.declared.checking_error.LassoError.TheVariants.{WrongRule, GuardFails, PassedRange, Open, Memory}
use Rattle.lasso_check.specs.declared.checking.Turn as code
use Rattle.lasso_check.specs.declared.turning.Turning.{Turning}
use Rattle.lasso_check.specs.Lassos.{Lasso, stem_back, both_back, run_along}
use Rattle.lasso_check.specs.Checks.{GoesRoundInRange, IsFirstDifference, IsOpenAt, CostsTurn, is_used_in, rules_of_turn}
use Rattle.lasso_check.specs.Checks.{Turn, Verdict, Round, Bad, OpenAt}

-- the result for a turn that leads back: its rules, and its cost, capped at 2^127
pub record IsTurn (p : Program) (l : Lasso) (t : Turn) : Type 0 where
  pub round : GoesRoundInRange p l
  pub rules : t.rules ≡ rules_of_turn p l
  pub charged : ℕ
  pub costs : CostsTurn p l charged
  pub cost : t.cost ≡ capped charged

-- the verdict on a lasso is right
abbrev pub HasVerdict : Program → Lasso → Verdict → Type 0
HasVerdict p l (Round t) = IsTurn p l t
HasVerdict p l (Bad bad) = IsFirstBadStep p l.start (both_back l) bad
HasVerdict p l (OpenAt place) = IsOpenAt p l place

-- a turn as plain data
abbrev pub turn_of : code.Turn → Turn
turn_of t = record { rules = t.rules.items; cost = t.cost }

-- the verdict that an error reports; none for want of memory
abbrev pub verdict_in : LassoError → Option Verdict
verdict_in (WrongRule step) = Some (Bad (record { number = step; fault = OtherRule }))
verdict_in (GuardFails step atom) = Some (Bad (record { number = step; fault = AtomFails atom }))
verdict_in (PassedRange step) = Some (Bad (record { number = step; fault = PastRange }))
verdict_in (Open place) = Some (OpenAt place)
verdict_in Memory = None

-- the verdict that an error reports is right; want of memory is always right
abbrev pub Refuses : Program → Lasso → LassoError → Type 0
Refuses p l e = IfSome (verdict_in e) (HasVerdict p l)

-- the verdict is a bad step, and it is the first one
abbrev pub IsBadStep : Program → Lasso → Verdict → Type 0
IsBadStep p l (Bad bad) = IsFirstBadStep p l.start (both_back l) bad
IsBadStep p l (Round t) = ⊥
IsBadStep p l (OpenAt place) = ⊥

-- an error reports the first bad step, or want of memory
abbrev pub RefusesStep : Program → Lasso → LassoError → Type 0
RefusesStep p l e = IfSome (verdict_in e) (IsBadStep p l)

-- the verdict that a result reports is right; want of memory is always right
abbrev pub Finds : Program → Lasso → Result code.Turn LassoError → Type 0
Finds p l result = MatchResult result (λ t. IsTurn p l (turn_of t)) (Refuses p l)

-- a result reports this verdict, unless memory ran out
abbrev pub FindsOnly : Verdict → Result code.Turn LassoError → Type 0
FindsOnly v result = MatchResult result (λ t. Round (turn_of t) ≡ v) (λ e. IfSome (verdict_in e) (λ w. w ≡ v))

-- the first difference of two configurations; none if they are equal
abbrev pub Differ : Config → Config → Option ℕ → Type 0
Differ b c None = b ≡ c
Differ b c (Some place) = IsFirstDifference b c place

-- a walk has taken the first n steps of both parts, which are a run in range, and it can walk on from there
pub record HasTaken (p : Program) (l : Lasso) (n : ℕ) (w : Walk) : Type 0 where
  pub runs : RunsInRange p l.start (first_steps (run_along l) n) (config_of w.here)
  pub walks : CanWalk p w

-- the first steps of the turn, the last one of them first
abbrev pub first_of_turn : Lasso → ℕ → List Step
first_of_turn l n = reverse (take n l.turn)

-- a walk has taken the stem and the first n steps of the turn, and has recorded which rules these n steps use and what
-- they cost, capped at 2^127
pub record HasTurned (p : Program) (l : Lasso) (n : ℕ) (t : Turning) : Type 0 where
  pub taken : HasTaken p l (length l.stem + n) t.walk
  pub used : t.used.items ≡ map (is_used_in (first_of_turn l n)) (rule_numbers p)
  pub charged : ℕ
  pub costs : spent_all p l.start (first_steps (run_along l) (length l.stem + n)) ≡ charged + spent_all p l.start (stem_back l)
  pub cost : t.cost ≡ capped charged
