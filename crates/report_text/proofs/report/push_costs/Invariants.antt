use Rattle.std.proofs.Common.{◌≡◌, ◌+◌, ◌++◌, map, drop}
use Rattle.report_text.specs.Pieces.{numbered_lines}
use Rattle.its_model.specs.Views.{name_of}
use Rattle.report_text.specs.Reports.{cost_line}
use Rattle.report_text.specs.Conditions.{rule_cost_of}
use Rattle.report_text.proofs.report.push_costs.Given as goal

-- the written lines and the remaining ones are the whole
abbrev pub invariant-loop-i : goal.invariant-loop-i
invariant-loop-i l = l.text.items ++ numbered_lines (λ rule c. cost_line (map name_of l.names) rule (rule_cost_of c)) (l.i + 1) (drop l.i l.costs) ≡ l.initial.text.items ++ numbered_lines (λ rule c. cost_line (map name_of l.names) rule (rule_cost_of c)) 1 l.costs
