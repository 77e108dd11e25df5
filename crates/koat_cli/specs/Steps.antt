-- The texts of the entries of an outcome, by which the contracts of the functions that write them are stated.
use Rattle.std.specs.Prelude.{ℕ, Bool, true, false, List, Option, codes}
use Rattle.bound_expr.specs.Capped.{capped_val}
use Rattle.bound_expr.specs.Views.{bound_of}
use Rattle.outcome.specs.Views.{size_of}
use Rattle.outcome.specs.declared.entry.TimeEntry.{TimeEntry}
use Rattle.outcome.specs.declared.entry.TimeEntry.TheVariants as times
use Rattle.outcome.specs.declared.entry.CostEntry.{CostEntry}
use Rattle.outcome.specs.declared.entry.SizeEntry.{SizeEntry}
use Rattle.outcome.specs.declared.entry.SizeEntry.TheVariants as sizes
use Rattle.report_text.specs.Conditions.{rule_cost_of}
use Rattle.koat_cli.specs.ReplayTexts.{value_text, lines_beside, count_line, spent_line, greatest_line, size_value}

-- whether an entry is a size
abbrev pub is_known_size : SizeEntry → Bool
is_known_size (sizes.Known s) = true
is_known_size (sizes.UnboundedSide l) = false
is_known_size (sizes.OutOfLimits t) = false
is_known_size (sizes.Missing s) = false
is_known_size (sizes.Nonlinear s) = false
is_known_size (sizes.Untimed rule) = false
is_known_size (sizes.Large nodes) = false

-- the value of the bound of an entry at these inputs, if there is one
abbrev pub entry_value : List ℕ → TimeEntry → List ℕ
entry_value at (times.Known s) = value_text (capped_val (bound_of s.bound) at)
entry_value at (times.Gap g) = codes "unknown"
entry_value at (times.OutOfLimits t) = codes "unknown"
entry_value at (times.Large nodes) = codes "unknown"

-- how often the rules occur, beside the values of their entries
abbrev pub entry_lines : List ℕ → ℕ → List ℕ → List TimeEntry → List ℕ
entry_lines at k counts entries = lines_beside (λ rule n e. count_line rule n (entry_value at e)) k counts entries

-- what the steps by each rule cost together, beside the values of their entries
abbrev pub cost_lines : List ℕ → ℕ → List ℕ → List (Option CostEntry) → List ℕ
cost_lines at k spent entries = lines_beside (λ rule n e. spent_line at rule n (rule_cost_of e)) k spent entries

-- the greatest absolute values at the places after a rule, beside the values of their entries
abbrev pub place_lines : List ℕ → ℕ → ℕ → List ℕ → List SizeEntry → List ℕ
place_lines at rule k numbers entries =
    lines_beside (λ place n e. greatest_line rule place n (size_value at (size_of e))) k numbers entries
