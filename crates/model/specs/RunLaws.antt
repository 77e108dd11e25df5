-- Laws of every run, step by step.
use Rattle.std.specs.Prelude.{◌≡◌, ℕ, List, ◌∷◌, ◌++◌, length, ℤ, Bool, true, Some}
use Rattle.std.specs.List.{All, Contains}
use Rattle.model.specs.Programs.{Program, Rule, rule_at, arity_of}
use Rattle.model.specs.Runs.{Config, Step, IsRun, last_rule}
use Rattle.model.specs.Paths.{IsReached, target_of, comes_before, pre}

-- each rule has an update for each place of its target, and a left variable for each place of its source
pub record AritiesAgree (p : Program) : Type 0 where
  pub updates : (t : ℕ) (r : Rule) → rule_at p t ≡ Some r → length r.updates ≡ arity_of p r.target
  pub left : (t : ℕ) (r : Rule) → rule_at p t ≡ Some r → r.left ≡ arity_of p r.source

-- the steps, last step first, are a run to some configuration
abbrev pub IsSomeRun : Program → List ℤ → List Step → Type 0
IsSomeRun p start steps = (c : Config) × IsRun p start steps c

-- A prefix of a run is a run. A run ends at the target of its last rule; without a step that is the start symbol, the
-- target of the virtual entry. The rule of a step can come just before the rule of the next step. A run that uses only
-- allowed rules ends at a symbol that is reachable by them. If arities agree, a run ends at a configuration with one
-- value for each argument of its symbol.
pub record RunsGoStepByStep (p : Program) : Type 0 where
  pub beginning : (start : List ℤ) (later earlier : List Step) → IsSomeRun p start (later ++ earlier)
      → IsSomeRun p start earlier
  pub stands : (start : List ℤ) (steps : List Step) (c : Config) → IsRun p start steps c
      → target_of p (last_rule steps) ≡ Some c.at
  pub before : (start : List ℤ) (s : Step) (earlier : List Step) (c : Config) → IsRun p start (s ∷ earlier) c
      → comes_before p (last_rule earlier) s.rule ≡ true
  pub listed : (start : List ℤ) (s : Step) (earlier : List Step) (c : Config) → IsRun p start (s ∷ earlier) c
      → Contains (pre p s.rule) (last_rule earlier)
  pub reached : (is_allowed : ℕ → Bool) (start : List ℤ) (steps : List Step) (c : Config) → IsRun p start steps c
      → All (λ s. is_allowed s.rule ≡ true) steps → IsReached p is_allowed c.at
  pub values : AritiesAgree p → (start : List ℤ) (steps : List Step) (c : Config) → IsRun p start steps c
      → length c.values ≡ arity_of p c.at

-- the laws of runs, for all programs
abbrev pub AllRunsGoStepByStep : Type 0
AllRunsGoStepByStep = (p : Program) → RunsGoStepByStep p
