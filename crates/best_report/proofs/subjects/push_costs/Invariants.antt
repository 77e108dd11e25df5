use Rattle.std.proofs.Common.{◌≡◌, ◌+◌, ◌++◌, map, drop}
use Rattle.its_model.specs.Views.{rule_of}
use Rattle.best_report.specs.Subjects.{flat_map_numbered, cost_subject}
use Rattle.best_report.proofs.subjects.push_costs.Given as goal

-- what is there, and what is left, are what was there and all
abbrev pub invariant-loop-i : goal.invariant-loop-i
invariant-loop-i l =
    l.found.items ++ flat_map_numbered cost_subject (l.i + 1) (map rule_of (drop l.i l.rules))
    ≡ l.initial.found.items ++ flat_map_numbered cost_subject 1 (map rule_of l.rules)
