-- The total: the sum of what each rule spends at most.
use Rattle.std.specs.Prelude.{List, [], ◌∷◌, Option, Some, None}
use Rattle.std.specs.Option.{option_map}
use Rattle.model.specs.Bounds.{Bound, SumOf, Parts, NoParts, Part}
use Rattle.bound_expr.specs.Views.{bound_of}
use Rattle.bound_table.specs.InForce.{rewritten}
use Rattle.outcome.specs.declared.entry.TimeEntry.{TimeEntry}
use Rattle.outcome.specs.declared.entry.TimeEntry.TheVariants as entries
use Rattle.outcome.specs.declared.entry.CostEntry.{CostEntry}
use Rattle.outcome.specs.declared.entry.CostEntry.TheVariants as costs

-- the time of an entry, where it is known
abbrev pub time_in : TimeEntry → Option Bound
time_in (entries.Known s) = Some (bound_of s.bound)
time_in (entries.Gap g) = None
time_in (entries.OutOfLimits t) = None
time_in (entries.Large nodes) = None

-- what a rule spends at most, by the entries of its time and of its cost: the bound of the cost, where it has one; else
-- its time, since each step costs 1
abbrev pub spent_by : TimeEntry → Option CostEntry → Option Bound
spent_by time None = time_in time
spent_by time (Some (costs.Known s)) = Some (bound_of s.bound)
spent_by time (Some (costs.UnboundedSide l)) = None
spent_by time (Some (costs.OutOfLimits x)) = None
spent_by time (Some (costs.Missing m)) = None
spent_by time (Some (costs.Untimed t)) = None
spent_by time (Some (costs.Large nodes)) = None

-- the same for each rule, in order
abbrev pub spendings_by : List TimeEntry → List (Option CostEntry) → List (Option Bound)
spendings_by [] costs = []
spendings_by (time ∷ times) [] = []
spendings_by (time ∷ times) (cost ∷ costs) = spent_by time cost ∷ spendings_by times costs

-- a bound before others, if all of them are known
abbrev pub before : Option Bound → Option Parts → Option Parts
before None rest = None
before (Some b) None = None
before (Some b) (Some bs) = Some (Part b bs)

-- these bounds, where all are known
abbrev pub known_parts : List (Option Bound) → Option Parts
known_parts [] = Some NoParts
known_parts (o ∷ os) = before o (known_parts os)

-- the total: the rewritten sum of all bounds, where all are known
abbrev pub total_of : List (Option Bound) → Option Bound
total_of bounds = option_map (λ parts. rewritten (SumOf parts)) (known_parts bounds)
