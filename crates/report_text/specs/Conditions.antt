-- Preconditions of the report's functions: entries of the code, and their lines.
use Rattle.std.specs.Prelude.{ℕ, List, ◌++◌, Option, codes, decimal}
use Rattle.std.specs.Option.{option_map}
use Rattle.model.specs.Programs.{Name}
use Rattle.model.specs.Bounds.{Bound}
use Rattle.bound_expr.specs.Views.{bound_of}
use Rattle.bound_expr.specs.declared.bound.Bound as code
use Rattle.outcome.specs.declared.entry.TimeEntry.{TimeEntry}
use Rattle.outcome.specs.declared.entry.TimeEntry.TheVariants as times
use Rattle.outcome.specs.declared.entry.CostEntry.{CostEntry}
use Rattle.outcome.specs.Reports.{RuleCost}
use Rattle.outcome.specs.Views.{cost_of}
use Rattle.report_text.specs.Reports.{bound_end, none_end}

-- the line of a rule's entry
abbrev pub entry_end : List Name → TimeEntry → List ℕ
entry_end names (times.Known s) = bound_end names (bound_of s.bound)
entry_end names (times.Gap g) = none_end
entry_end names (times.OutOfLimits t) = none_end
entry_end names (times.Large nodes) = none_end

abbrev pub entry_line : List Name → ℕ → TimeEntry → List ℕ
entry_line names rule e = codes "time " ++ (decimal rule ++ (codes ": " ++ entry_end names e))

-- the total as plain data
abbrev pub total_of : Option code.Bound → Option Bound
total_of o = option_map bound_of o

-- the cost of a rule as plain data, where it has one
abbrev pub rule_cost_of : Option CostEntry → Option RuleCost
rule_cost_of o = option_map cost_of o
