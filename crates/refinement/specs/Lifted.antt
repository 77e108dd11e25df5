-- Runs of a program lifted to a program that simulates it, and the bounds that carry over.
use Rattle.std.specs.Prelude.{◌≡◌, ◌≢◌, ℕ, List, [], ◌∷◌, map, ℤ, Some}
use Rattle.std.specs.List.{All, Contains}
use Rattle.model.specs.Bounds.{Bound, SumOf, MaximumOf, Parts, NoParts, Part}
use Rattle.model.specs.Facts.{HoldsTime, HoldsSize, HoldsCost}
use Rattle.model.specs.Programs.{Program, Rule, rule_at}
use Rattle.model.specs.Runs.{Config, Step, IsRun}
use Rattle.model.specs.Facts.{HoldsLength, HoldsTotal}
use Rattle.refinement.specs.Simulation.{Projection, config_below, step_below}

-- a run lifts to q: a run of q from the same start values has steps that project to its steps, one by one, and ends at
-- a configuration that projects to its end and has the facts
pub record HasLift (q : Program) (o : Projection) (HasFacts : Config → Type 0) (start : List ℤ) (steps : List Step)
    (c : Config) : Type 0 where
  pub above : List Step
  pub end : Config
  pub run : IsRun q start above end
  pub steps_below : map (step_below o) above ≡ steps
  pub end_below : config_below o end ≡ c
  pub facts : HasFacts end

-- every run of p lifts to q
pub record AllRunsLift (p q : Program) (o : Projection) (HasFacts : Config → Type 0) : Type 0 where
  pub each : (start : List ℤ) (steps : List Step) (c : Config) → IsRun p start steps c
      → HasLift q o HasFacts start steps c

-- every run of q projects to a run of p
pub record AllRunsProject (p q : Program) (o : Projection) : Type 0 where
  pub each : (start : List ℤ) (steps : List Step) (c : Config) → IsRun q start steps c
      → IsRun p start (map (step_below o) steps) (config_below o c)

-- a list of rules of q contains each copy of rule n of p; it may contain other rules, and some twice
pub record AreCopies (q : Program) (o : Projection) (n : ℕ) (copies : List ℕ) : Type 0 where
  pub each : (t : ℕ) (r : Rule) → rule_at q t ≡ Some r → o.rule t ≡ n → Contains copies t

-- the bounds of the rules of a list, in order
abbrev pub parts_of : (ℕ → Bound) → List ℕ → Parts
parts_of bound [] = NoParts
parts_of bound (t ∷ copies) = Part (bound t) (parts_of bound copies)

-- the sum of the bounds of the rules of a list
abbrev pub sum_of : (ℕ → Bound) → List ℕ → Bound
sum_of bound copies = SumOf (parts_of bound copies)

-- the maximum of the bounds of the rules of a list
abbrev pub maximum_of : (ℕ → Bound) → List ℕ → Bound
maximum_of bound copies = MaximumOf (parts_of bound copies)

-- bounds of q carry over to p: the sum of the bounds on a rule's copies bounds how often the rule occurs, and what its
-- steps cost; their maximum bounds the sizes after it; and a bound on whole runs is one for p
pub record BoundsAreKept (p q : Program) (o : Projection) : Type 0 where
  pub times : (n : ℕ) (copies : List ℕ) (bound : ℕ → Bound) → n ≢ 0 → AreCopies q o n copies
      → All (λ t. HoldsTime q t (bound t)) copies → HoldsTime p n (sum_of bound copies)
  pub costs : (n : ℕ) (copies : List ℕ) (bound : ℕ → Bound) → n ≢ 0 → AreCopies q o n copies
      → All (λ t. HoldsCost q t (bound t)) copies → HoldsCost p n (sum_of bound copies)
  pub sizes : (n i : ℕ) (copies : List ℕ) (bound : ℕ → Bound) → n ≢ 0 → AreCopies q o n copies
      → All (λ t. HoldsSize q t i (bound t)) copies → HoldsSize p n i (maximum_of bound copies)
  pub lengths : (bound : Bound) → HoldsLength q bound → HoldsLength p bound
  pub totals : (bound : Bound) → HoldsTotal q bound → HoldsTotal p bound
