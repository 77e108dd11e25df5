-- The laws of potentials: a bound on payments, and a bound on a covered form.
use Rattle.std.specs.Prelude.{◌≡◌, ℕ, ◌+◌, ◌*◌, ◌≤◌, max, List, ◌∷◌, ℤ, pos, ◌*ℤ◌, ◌≤ℤ◌}
use Rattle.run_counting.specs.model.Programs.{Program}
use Rattle.run_counting.specs.model.Runs.{Config, Step, IsRun}
use Rattle.potentials.specs.Sums.{weighed, variables_at}
use Rattle.potentials.specs.Potentials.{Potential, Goal, level, begin_at, payments, gains, kept_gains, Pays, Covers}
use Rattle.potentials.specs.Potentials.{ResetsReach}

-- if a potential pays for a goal, den times the payments of a run, plus the level at its end, is at most the level at
-- its start plus the gains of its steps
pub record PotentialsPayForGoals : Type 0 where
  pub each : (p : Program) (start : List ℤ) (f : Potential) (den : ℕ) (g : Goal) → Pays p start f den g
      → (steps : List Step) (c : Config) → IsRun p start steps c
      → den * weighed p (payments g) start steps + level f c
      ≤ level f (begin_at p start) + weighed p (gains f) start steps

-- if a potential covers a form of a rule and no reset gains more than top, den times the form at a step by the rule is
-- at most the greater of top and the level at the start, plus the gains of the earlier steps that keep the function
pub record PotentialsCoverPeaks : Type 0 where
  pub each : (p : Program) (start : List ℤ) (f : Potential) (den rule top : ℕ) (form : List ℤ → ℤ)
      → Covers p start f den rule form → ResetsReach p start f top
      → (s : Step) (earlier : List Step) (c : Config) → IsRun p start (s ∷ earlier) c → s.rule ≡ rule
      → (pos den *ℤ form (variables_at p start s earlier))
      ≤ℤ pos (max (level f (begin_at p start)) top + weighed p (kept_gains f) start earlier)
