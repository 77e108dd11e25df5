-- Which outcomes can be printed.
use Rattle.std.specs.Prelude.{ℕ, ◌≤◌, length, Option, Some, None, ⊤}
use Rattle.std.specs.List.{All}
use Rattle.bound_expr.specs.Views.{bound_of}
use Rattle.bound_expr.specs.Numbers.{ReadsBelow}
use Rattle.bound_expr.specs.Tidy.{IsTidy}
use Rattle.bound_expr.specs.declared.bound.Bound as code
use Rattle.outcome.specs.declared.entry.TimeEntry.{TimeEntry}
use Rattle.outcome.specs.declared.entry.TimeEntry.TheVariants as times
use Rattle.outcome.specs.declared.entry.CostEntry.{CostEntry}
use Rattle.outcome.specs.declared.entry.CostEntry.TheVariants as costs
use Rattle.outcome.specs.declared.entry.SizeEntry.{SizeEntry}
use Rattle.outcome.specs.declared.entry.SizeEntry.TheVariants as sizes
use Rattle.outcome.specs.declared.outcome_of.Outcome.{Outcome}

-- a bound is tidy, and its inputs are among the first n
abbrev pub IsPrintable : ℕ → code.Bound → Type 0
IsPrintable n b = IsTidy (bound_of b) × ReadsBelow n (bound_of b)

-- the bound of a time, where there is one, is printable
abbrev pub IsPrintableTime : ℕ → TimeEntry → Type 0
IsPrintableTime n (times.Known s) = IsPrintable n s.bound
IsPrintableTime n (times.Gap g) = ⊤
IsPrintableTime n (times.OutOfLimits t) = ⊤
IsPrintableTime n (times.Large nodes) = ⊤

-- the gap that a time names, where it names one, is one of this many
abbrev pub HasItsGap : ℕ → TimeEntry → Type 0
HasItsGap n (times.Known s) = ⊤
HasItsGap n (times.Gap g) = (1 ≤ g) × (g ≤ n)
HasItsGap n (times.OutOfLimits t) = ⊤
HasItsGap n (times.Large nodes) = ⊤

-- the bound of a cost, where there is one, is printable
abbrev pub IsPrintableCost : ℕ → Option CostEntry → Type 0
IsPrintableCost n None = ⊤
IsPrintableCost n (Some (costs.Known s)) = IsPrintable n s.bound
IsPrintableCost n (Some (costs.UnboundedSide l)) = ⊤
IsPrintableCost n (Some (costs.OutOfLimits t)) = ⊤
IsPrintableCost n (Some (costs.Missing s)) = ⊤
IsPrintableCost n (Some (costs.Untimed t)) = ⊤
IsPrintableCost n (Some (costs.Large nodes)) = ⊤

-- the bound of a size, where there is one, is printable
abbrev pub IsPrintableSize : ℕ → SizeEntry → Type 0
IsPrintableSize n (sizes.Known s) = IsPrintable n s.bound
IsPrintableSize n (sizes.UnboundedSide l) = ⊤
IsPrintableSize n (sizes.OutOfLimits t) = ⊤
IsPrintableSize n (sizes.Missing s) = ⊤
IsPrintableSize n (sizes.Nonlinear s) = ⊤
IsPrintableSize n (sizes.Untimed t) = ⊤
IsPrintableSize n (sizes.Large nodes) = ⊤

abbrev pub IsPrintableTotal : ℕ → Option code.Bound → Type 0
IsPrintableTotal n None = ⊤
IsPrintableTotal n (Some b) = IsPrintable n b

-- all bounds of an outcome are tidy, over n start arguments alone; and it has the gaps that it names
pub record IsPrintableOutcome (n : ℕ) (o : Outcome) : Type 0 where
  pub times : All (IsPrintableTime n) o.times.items
  pub gaps : All (HasItsGap (length o.gaps.items)) o.times.items
  pub costs : All (IsPrintableCost n) o.costs.items
  pub total : IsPrintableTotal n o.total
  pub sizes : All (λ places. All (IsPrintableSize n) places.items) o.sizes.items
