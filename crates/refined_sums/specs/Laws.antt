-- Sums over runs and peaks carry over from a program that simulates another.
use Rattle.std.specs.Prelude.{ℕ, List, ℤ}
use Rattle.std.specs.List.{All}
use Rattle.model.specs.Programs.{Program}
use Rattle.model.specs.Runs.{Config}
use Rattle.refinement.specs.Laws.{SpellsTheRunsOf}
use Rattle.refinement.specs.Lifted.{AreCopies}
use Rattle.refinement.specs.Sections.{Section, spelled, projection_of}
use Rattle.refinement.specs.Simulation.{Projection, Simulates}
use Rattle.potentials.specs.Sums.{Charge, Weight, HoldsSum, HoldsPeak, charges, once, once_for, cost_for, cost_of_each}
use Rattle.refined_sums.specs.Copies.{at_rule, charges_above, greatest_at, sum_at, weight_below}

-- sums over runs of q and peaks there bound those of p
pub record SumsAndPeaksAreKept (p q : Program) (o : Projection) : Type 0 where
  -- what steps weigh by the rules below them bounds what the steps below weigh
  pub weights : (w : Weight) (bound : List ℤ → ℕ) → HoldsSum q (weight_below o w) bound → HoldsSum p w bound
  -- a sum over the steps of a rule is at most the sum of those over its copies
  pub sums : (n : ℕ) (copies : List ℕ) (w : Weight) (bound : ℕ → List ℤ → ℕ) → AreCopies q o n copies
      → All (λ t. HoldsSum q (at_rule t (weight_below o w)) (bound t)) copies
      → HoldsSum p (at_rule n w) (sum_at bound copies)
  -- charges at rules come to at most what the same charges at all copies of these come to
  pub goals : (copies : ℕ → List ℕ) (goal : List Charge) (bound : List ℤ → ℕ)
      → All (λ c. AreCopies q o c.rule (copies c.rule)) goal → HoldsSum q (charges (charges_above copies goal)) bound
      → HoldsSum p (charges goal) bound
  -- a peak at a rule is at most the greatest of those at its copies
  pub peaks : (n : ℕ) (copies : List ℕ) (form : List ℤ → ℤ) (bound : ℕ → List ℤ → ℕ) → AreCopies q o n copies
      → All (λ t. HoldsPeak q t form (bound t)) copies → HoldsPeak p n form (greatest_at bound copies)
  -- so how often a rule occurs, and what its steps cost, are at most the sums of these for its copies
  pub times : (n : ℕ) (copies : List ℕ) (bound : ℕ → List ℤ → ℕ) → AreCopies q o n copies
      → All (λ t. HoldsSum q (once_for t) (bound t)) copies → HoldsSum p (once_for n) (sum_at bound copies)
  pub costs : (n : ℕ) (copies : List ℕ) (bound : ℕ → List ℤ → ℕ) → AreCopies q o n copies
      → All (λ t. HoldsSum q (cost_for q t) (bound t)) copies → HoldsSum p (cost_for p n) (sum_at bound copies)
  -- and lengths of runs and total costs are bounded as they are
  pub lengths : (bound : List ℤ → ℕ) → HoldsSum q once bound → HoldsSum p once bound
  pub totals : (bound : List ℤ → ℕ) → HoldsSum q (cost_of_each q) bound → HoldsSum p (cost_of_each p) bound

-- to a program that simulates another its sums and peaks carry over
pub record SimulationKeepsSums (HasFacts : Config → Type 0) : Type 0 where
  pub kept : (p q : Program) (o : Projection) → Simulates q p o HasFacts → SumsAndPeaksAreKept p q o

-- and so do those of the program that a section spells
pub record SectionsKeepSums : Type 0 where
  pub kept : (p : Program) (section : Section) → SpellsTheRunsOf p section
      → SumsAndPeaksAreKept p (spelled p section) (projection_of p section)
