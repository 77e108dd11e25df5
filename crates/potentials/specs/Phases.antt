-- Two phases: the first function falls at each counted step, and the second one falls once the first is low.
use Rattle.std.specs.Prelude.{◌≡◌, ℕ, ◌+◌, ◌*◌, ◌≤◌, Bool, true, List, ℤ, pos, ◌+ℤ◌, ◌-ℤ◌, ◌≤ℤ◌, if◌then◌else◌}
use Rattle.run_counting.specs.model.Programs.{Program}
use Rattle.run_counting.specs.model.Runs.{Config, Step}
use Rattle.run_counting.specs.model.Spending.{or_zero}
use Rattle.potentials.specs.Sums.{Weight, HoldsSum}
use Rattle.potentials.specs.Potentials.{IsTaken}
use Rattle.potentials.specs.Nodes.{Bounding, IsAtLeastQuotient}

-- two functions at each of some symbols, over the values there, and the rules that are counted
pub record Phases : Type 0 where
  pub has : ℕ → Bool
  pub first : ℕ → List ℤ → ℤ
  pub second : ℕ → List ℤ → ℤ
  pub counted : ℕ → Bool

-- the weight 1 for each counted rule
abbrev pub counts : Phases → Weight
counts f t env = if f.counted t then 1 else 0

-- a number if the rule is counted, else 0
abbrev pub where_counted : Phases → ℕ → ℤ → ℤ
where_counted f t z = if f.counted t then z else pos 0

-- a step goes in phases: it begins at a symbol with functions; if it isn't counted, it raises neither; if it is, the
-- first function falls by den, and the second one by den less the first
pub record FallsInPhases (f : Phases) (den : ℕ) (c : Config) (s : Step) (d : Config) : Type 0 where
  pub source : f.has c.at ≡ true
  pub first : (f.first d.at d.values +ℤ where_counted f s.rule (pos den)) ≤ℤ f.first c.at c.values
  pub second : (f.second d.at d.values +ℤ where_counted f s.rule (pos den))
      ≤ℤ (f.second c.at c.values +ℤ where_counted f s.rule (f.first c.at c.values))

-- at the configuration there are functions, and the second one is at least den
pub record IsHighBefore (f : Phases) (den : ℕ) (c : Config) : Type 0 where
  pub source : f.has c.at ≡ true
  pub floor : pos den ≤ℤ f.second c.at c.values

-- each step that a run takes to a symbol with functions goes in phases, and the second function is at least den before
-- each counted step
pub record GoesInPhases (p : Program) (start : List ℤ) (f : Phases) (den : ℕ) : Type 0 where
  pub moves : (c : Config) (s : Step) (d : Config) → IsTaken p start c s d → f.has d.at ≡ true
      → FallsInPhases f den c s d
  pub floors : (c : Config) (s : Step) (d : Config) → IsTaken p start c s d → f.counted s.rule ≡ true
      → IsHighBefore f den c

-- r is at least the square root of n: each number whose square is at most n is at most r
pub record IsAtLeastRoot (n r : ℕ) : Type 0 where
  pub each : (e : ℕ) → e * e ≤ n → e ≤ r

-- the bound on the number of counted steps, times den: den, plus twice the positive part of the first function at the
-- start, plus the root of 2 * den times the positive part of the second function there less den
abbrev pub phases_bound : Program → Phases → ℕ → Bounding → Bounding
phases_bound p f den root start = den + 2 * or_zero (f.first p.start start) + root start

abbrev pub under_root : Program → Phases → ℕ → Bounding
under_root p f den start = 2 * (den * or_zero (f.second p.start start -ℤ pos den))

-- the number of counted steps of runs that go in phases is at most that bound
abbrev pub PhasesHold : Type 0
PhasesHold = (p : Program) (f : Phases) (den : ℕ) (root b : Bounding)
    → ((start : List ℤ) → GoesInPhases p start f den)
    → ((start : List ℤ) → IsAtLeastRoot (under_root p f den start) (root start))
    → IsAtLeastQuotient den (phases_bound p f den root) b → HoldsSum p (counts f) b
