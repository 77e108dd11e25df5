-- The verdict on a lasso: its turn leads back, a step is bad, or the turn is open at a place.
use Rattle.std.specs.Prelude.{◌≡◌, ◌+◌, ◌≤◌, ℕ, zero, suc, Bool, nat_lt, List, length, take, pos, slice_index_or}
use Rattle.std.specs.List.{filter}
use Rattle.its_model.specs.model.Programs.{Program}
use Rattle.its_model.specs.model.Runs.{Config, Step, count}
use Rattle.its_model.specs.model.Spending.{spent_all}
use Rattle.run_replay.specs.Replays.{RunsInRange, BadStep, IsFirstBadStep, rule_numbers}
use Rattle.lasso_check.specs.Lassos.{Lasso, stem_back, turn_back, both_back}

-- the stem is a run in range, and so are both parts, both lead to the same configuration, and the turn has a step
pub record GoesRoundInRange (p : Program) (l : Lasso) : Type 0 where
  pub at : Config
  pub stem : RunsInRange p l.start (stem_back l) at
  pub whole : RunsInRange p l.start (both_back l) at
  pub nonempty : 1 ≤ length l.turn

-- The first place at which two configurations differ: 0 if their symbols do; else the symbols are the same, and so are
-- the values before this place, which is counted from 1.
abbrev pub IsFirstDifference : Config → Config → ℕ → Type 0
IsFirstDifference b c zero = ¬ (b.at ≡ c.at)
IsFirstDifference b c (suc i) = (b.at ≡ c.at) × (take i b.values ≡ take i c.values)
    × (¬ (slice_index_or b.values i (pos 0) ≡ slice_index_or c.values i (pos 0)))

-- the stem is a run in range, and so are both parts, and this is the first place at which the configurations to which
-- they lead differ
pub record IsOpenAt (p : Program) (l : Lasso) (place : ℕ) : Type 0 where
  pub before : Config
  pub behind : Config
  pub stem : RunsInRange p l.start (stem_back l) before
  pub whole : RunsInRange p l.start (both_back l) behind
  pub first : IsFirstDifference before behind place

-- the cost of the steps of the turn
abbrev pub CostsTurn : Program → Lasso → ℕ → Type 0
CostsTurn p l n = spent_all p l.start (both_back l) ≡ n + spent_all p l.start (stem_back l)

-- whether a rule occurs in a list of steps
abbrev pub is_used_in : List Step → ℕ → Bool
is_used_in steps t = nat_lt 0 (count t steps)

-- the numbers of the turn's rules, in ascending order
abbrev pub rules_of_turn : Program → Lasso → List ℕ
rules_of_turn p l = filter (is_used_in (turn_back l)) (rule_numbers p)

-- the result for a turn that leads back: its rules, and its cost
pub record Turn : Type 0 where
  pub rules : List ℕ
  pub cost : ℕ

-- the verdict on a lasso: its turn leads back, its first bad step, or the first place at which the turn is open
pub data Verdict : Type 0 where
  Round : Turn → Verdict
  Bad : BadStep → Verdict
  OpenAt : ℕ → Verdict
