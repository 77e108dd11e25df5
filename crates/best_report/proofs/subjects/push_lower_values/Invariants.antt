use Rattle.std.proofs.Common.{◌≡◌, ◌+◌, ◌++◌, map, drop}
use Rattle.its_model.specs.Views.{rule_of}
use Rattle.best_report.specs.Subjects.{flat_map_numbered, below_subjects}
use Rattle.best_report.proofs.subjects.push_lower_values.Given as goal

-- what is there, and what is left, are what was there and all
abbrev pub invariant-loop-i : goal.invariant-loop-i
invariant-loop-i l =
    l.found.items ++ flat_map_numbered below_subjects (l.i + 1) (map rule_of (drop l.i l.rules))
    ≡ l.initial.found.items ++ flat_map_numbered below_subjects 1 (map rule_of l.rules)
