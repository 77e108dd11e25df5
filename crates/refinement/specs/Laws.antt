-- The laws of simulation: the runs of the simulated program, bounds on them, and the facts at its symbols.
use Rattle.std.specs.Prelude.{◌≡◌, ℕ, ◌≤ℤ◌, List, ℤ, pos, Option, Some, None, slice_get, ⊤}
use Rattle.model.specs.Terms.{Term, value}
use Rattle.model.specs.Programs.{Program, Rule, rule_at, arity_of, GuardHolds}
use Rattle.model.specs.Runs.{Config, Step, IsRun}
use Rattle.refinement.specs.Simulation.{Projection, Simulates}
use Rattle.refinement.specs.Lifted.{AllRunsLift, AllRunsProject, BoundsAreKept}
use Rattle.refinement.specs.Sections.{Copy, Section, spelled, projection_of, AreAtLeastZero, HasFactsOf}
use Rattle.refinement.specs.Obligations.{IsRight, IsShown}

-- if a program simulates another, each run of the other lifts to it, and its bounds carry over
pub record SimulationKeepsBounds (HasFacts : Config → Type 0) : Type 0 where
  pub lifts : (p q : Program) (o : Projection) → Simulates q p o HasFacts → AllRunsLift p q o HasFacts
  pub bounds : (p q : Program) (o : Projection) → Simulates q p o HasFacts → BoundsAreKept p q o

-- the program that a section spells has the runs of the program, along which the facts of copies hold, and its bounds
-- carry over
pub record SpellsTheRunsOf (p : Program) (section : Section) : Type 0 where
  pub simulates : Simulates (spelled p section) p (projection_of p section) (HasFactsOf section)
  pub lifts : AllRunsLift p (spelled p section) (projection_of p section) (HasFactsOf section)
  pub projects : AllRunsProject p (spelled p section) (projection_of p section)
  pub bounds : BoundsAreKept p (spelled p section) (projection_of p section)

-- an expression over a symbol's places is at least 0 whenever a run is at the symbol
pub record HoldsAt (p : Program) (symbol : ℕ) (f : Term) : Type 0 where
  pub each : (start : List ℤ) (steps : List Step) (c : Config) → IsRun p start steps c → c.at ≡ symbol
      → pos 0 ≤ℤ value f c.values

-- an expression is at least 0 at all values that meet the facts of a copy
pub record FollowsFrom (facts : List Term) (f : Term) : Type 0 where
  pub each : (values : List ℤ) → AreAtLeastZero facts values → pos 0 ≤ℤ value f values

-- what follows from the facts of each copy of a symbol holds at the symbol
pub record FactsOfCopiesHold (p : Program) (section : Section) : Type 0 where
  pub each : (symbol : ℕ) (f : Term) → ((k : ℕ) (copy : Copy) → slice_get section.copies k ≡ Some copy
      → copy.over ≡ symbol → FollowsFrom copy.facts f) → HoldsAt p symbol f

-- the program that a right section spells has the runs of the program
pub record RightSectionsKeepBounds : Type 0 where
  pub runs : (p : Program) (section : Section) → IsRight p section → SpellsTheRunsOf p section
  pub facts : (p : Program) (section : Section) → IsRight p section → FactsOfCopiesHold p section

-- a section that is shown is right, so the program that it spells has the runs of the program
pub record ShownSectionsKeepBounds : Type 0 where
  pub right : (p : Program) (section : Section) → IsShown p section → IsRight p section
  pub runs : (p : Program) (section : Section) → IsShown p section → SpellsTheRunsOf p section
  pub facts : (p : Program) (section : Section) → IsShown p section → FactsOfCopiesHold p section

-- a rule is the same as another, except that its guard holds wherever the other's does
pub record IsWeaker (r weaker : Rule) : Type 0 where
  pub source : weaker.source ≡ r.source
  pub target : weaker.target ≡ r.target
  pub left : weaker.left ≡ r.left
  pub free : weaker.free ≡ r.free
  pub updates : weaker.updates ≡ r.updates
  pub cost : weaker.cost ≡ r.cost
  pub guard : (env : List ℤ) → GuardHolds env r.guard → GuardHolds env weaker.guard

-- if there is a rule, there is a weaker one
abbrev pub AreWeaker : Option Rule → Option Rule → Type 0
AreWeaker (Some r) (Some weaker) = IsWeaker r weaker
AreWeaker (Some r) None = ⊥
AreWeaker None (Some weaker) = ⊥
AreWeaker None None = ⊤

-- a program has the start of another, and its rules with weaker guards
pub record HasWeakerGuards (p q : Program) : Type 0 where
  pub start : q.start ≡ p.start
  pub places : arity_of q q.start ≡ arity_of p p.start
  pub rules : (t : ℕ) → AreWeaker (rule_at p t) (rule_at q t)

-- the projection of a program to itself
abbrev pub same_numbers : Projection
same_numbers = record { symbol = λ s. s; rule = λ t. t }

-- if a program has weaker guards than another, each run of the other lifts to it, and its bounds carry over
pub record WeakerGuardsKeepBounds : Type 0 where
  pub lifts : (p q : Program) → HasWeakerGuards p q → AllRunsLift p q same_numbers (λ c. ⊤)
  pub bounds : (p q : Program) → HasWeakerGuards p q → BoundsAreKept p q same_numbers
