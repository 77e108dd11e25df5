-- When the tally of a run is within the bounds of a report.
use Rattle.std.specs.Prelude.{ℕ, ◌≤◌, List, [], ◌∷◌, Option, Some, None, ⊤}
use Rattle.model.specs.Bounds.{Bound, val}
use Rattle.outcome.specs.Reports.{Time, Timed, Untimed, RuleCost, Costed, Uncosted, Size, Sized, Unsized, Report}
use Rattle.run_replay.specs.Replays.{Sums}

-- each element of a list is in this relation to the one beside it in another list, of the same length
abbrev pub AreBeside : {X Y : Type 0} → (X → Y → Type 0) → List X → List Y → Type 0
AreBeside Beside [] [] = ⊤
AreBeside Beside [] (y ∷ ys) = ⊥
AreBeside Beside (x ∷ xs) [] = ⊥
AreBeside Beside (x ∷ xs) (y ∷ ys) = Beside x y × AreBeside Beside xs ys

-- a number is at most the value at these inputs of a time, of the bound on a rule's cost, of a size, or of a total, if
-- there is one
abbrev pub IsWithinTime : List ℕ → ℕ → Time → Type 0
IsWithinTime at n (Timed b) = n ≤ val b at
IsWithinTime at n (Untimed why) = ⊤

abbrev pub IsWithinCost : List ℕ → ℕ → Option RuleCost → Type 0
IsWithinCost at n None = ⊤
IsWithinCost at n (Some (Costed b)) = n ≤ val b at
IsWithinCost at n (Some (Uncosted why)) = ⊤

abbrev pub IsWithinSize : List ℕ → ℕ → Size → Type 0
IsWithinSize at n (Sized b) = n ≤ val b at
IsWithinSize at n (Unsized why) = ⊤

abbrev pub IsWithinTotal : List ℕ → ℕ → Option Bound → Type 0
IsWithinTotal at n None = ⊤
IsWithinTotal at n (Some b) = n ≤ val b at

-- the tally of a run that starts with these absolute values is within the bounds of a report: each rule occurs at most
-- as often as its time allows, what its steps cost together is at most what its cost allows, where it has one, what all
-- steps cost together is at most what the total allows, and the greatest absolute value at each place after each rule
-- is at most its size
pub record IsWithinBounds (at : List ℕ) (tally : Sums) (r : Report) : Type 0 where
  pub counts : AreBeside (IsWithinTime at) tally.counts r.times
  pub costs : AreBeside (IsWithinCost at) tally.costs r.costs
  pub total : IsWithinTotal at tally.spent r.total
  pub greatest : AreBeside (AreBeside (IsWithinSize at)) tally.greatest r.sizes
