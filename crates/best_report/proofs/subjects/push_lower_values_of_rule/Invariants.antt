use Rattle.std.proofs.Common.{◌≡◌, ◌+◌, ◌++◌, map, drop}
use Rattle.poly_terms.specs.Views.{term_of}
use Rattle.best_report.specs.Subjects.{flat_map_numbered, below_subject}
use Rattle.best_report.proofs.subjects.push_lower_values_of_rule.Given as goal

-- what is there, and what is left, are what was there and all
abbrev pub invariant-loop-i : goal.invariant-loop-i
invariant-loop-i l =
    l.found.items ++ flat_map_numbered (below_subject l.number) (l.i + 1) (map term_of (drop l.i l.updates))
    ≡ l.initial.found.items ++ flat_map_numbered (below_subject l.number) 1 (map term_of l.updates)
