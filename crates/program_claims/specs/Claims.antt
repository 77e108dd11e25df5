-- Claims about a program, supported by lemmas about a program that simulates it; and what their statements mean for
-- runs.
use Rattle.std.specs.Prelude.{◌≡◌, ◌≤◌, ℕ, List, ℤ, pos, neg_ℤ, ◌≤ℤ◌}
use Rattle.std.specs.List.{AllByRecursion}
use Rattle.model.specs.Terms.{Term}
use Rattle.model.specs.Programs.{Program}
use Rattle.model.specs.Runs.{Config, Step, IsRun, count, last_rule, place_value}
use Rattle.model.specs.Spending.{spent, spent_all}
use Rattle.refinement.specs.Laws.{HoldsAt}
use Rattle.signed_bounds.specs.Bounds.{Signed, signed_val}

-- The lemmas that bound a sum of charges, by their numbers: one on all charges together, with its bound; or one for
-- each charge, with a bound on the sum of their bounds.
pub data Support : Type 0 where
  ByOne : ℕ → Support
  ByEach : List ℕ → Signed → Support

-- A claim, with the numbers of the lemmas that it cites: on how often a rule occurs; on the sum of the costs of a
-- rule's steps; on the sum of the costs of all steps; on the value at a place after a rule, from above and from below,
-- with a lemma for each copy of the rule, and the bound; and that an expression over the places of a symbol is at least
-- 0 there. Places are numbered from 1.
pub data Claim : Type 0 where
  OnTime : ℕ → Support → Claim
  OnCost : ℕ → Support → Claim
  OnTotal : Support → Claim
  OnAbove : ℕ → ℕ → List ℕ → Signed → Claim
  OnBelow : ℕ → ℕ → List ℕ → Signed → Claim
  OnSymbol : ℕ → Term → Claim

-- the statement of a claim: a bound over the start values on how often a rule occurs, on what its steps cost, on what
-- all steps cost, on the value at a place after a rule, or on the negation of that value; or that an expression is at
-- least 0 at a symbol
pub data Stated : Type 0 where
  Time : ℕ → Signed → Stated
  Cost : ℕ → Signed → Stated
  Total : Signed → Stated
  Above : ℕ → ℕ → Signed → Stated
  Below : ℕ → ℕ → Signed → Stated
  AtSymbol : ℕ → Term → Stated

-- in every run the rule occurs at most as often as the bound at the start values
pub record OccursAtMost (p : Program) (rule : ℕ) (bound : List ℤ → ℕ) : Type 0 where
  pub each : (start : List ℤ) (steps : List Step) (c : Config) → IsRun p start steps c → count rule steps ≤ bound start

-- in every run the steps by the rule cost together at most the bound at the start values
pub record SpendsAtMost (p : Program) (rule : ℕ) (bound : List ℤ → ℕ) : Type 0 where
  pub each : (start : List ℤ) (steps : List Step) (c : Config) → IsRun p start steps c
      → spent p rule start steps ≤ bound start

-- in every run all steps cost together at most the bound at the start values
pub record SpendsInAllAtMost (p : Program) (bound : List ℤ → ℕ) : Type 0 where
  pub each : (start : List ℤ) (steps : List Step) (c : Config) → IsRun p start steps c
      → spent_all p start steps ≤ bound start

-- after every run whose last step is by the rule, the value at the place is at most the bound at the start values
pub record EndsAtMost (p : Program) (rule place : ℕ) (bound : List ℤ → ℕ) : Type 0 where
  pub each : (start : List ℤ) (steps : List Step) (c : Config) → IsRun p start steps c → last_rule steps ≡ rule
      → place_value c place ≤ℤ pos (bound start)

-- after every run whose last step is by the rule, the negation of the value at the place is at most the bound at the
-- start values
pub record EndsAtLeast (p : Program) (rule place : ℕ) (bound : List ℤ → ℕ) : Type 0 where
  pub each : (start : List ℤ) (steps : List Step) (c : Config) → IsRun p start steps c → last_rule steps ≡ rule
      → neg_ℤ (place_value c place) ≤ℤ pos (bound start)

-- the statement holds on all runs
abbrev pub HoldsOf : Program → Stated → Type 0
HoldsOf p (Time rule b) = OccursAtMost p rule (signed_val b)
HoldsOf p (Cost rule b) = SpendsAtMost p rule (signed_val b)
HoldsOf p (Total b) = SpendsInAllAtMost p (signed_val b)
HoldsOf p (Above rule place b) = EndsAtMost p rule place (signed_val b)
HoldsOf p (Below rule place b) = EndsAtLeast p rule place (signed_val b)
HoldsOf p (AtSymbol symbol f) = HoldsAt p symbol f

-- every statement of a list holds on all runs
abbrev pub AllHoldOf : Program → List Stated → Type 0
AllHoldOf p stated = AllByRecursion (λ s. HoldsOf p s) stated
