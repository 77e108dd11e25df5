use Rattle.std.proofs.Common.{◌≡◌, ◌+◌, ◌++◌, drop, map, option_map}
use Rattle.its_model.specs.Views.{rule_of}
use Rattle.signed_bounds.specs.Views.{signeds_of}
use Rattle.best_report.specs.Statements.{first_on, statements_in}
use Rattle.best_report.specs.Spending.{spending_bounds}
use Rattle.best_report.proofs.spending.spending_bounds.Given as goal

-- the bounds so far, in front of those of the rules that are left
abbrev pub invariant-loop-i : goal.invariant-loop-i
invariant-loop-i l =
    option_map (λ bs. signeds_of l.bounds.items ++ bs)
    (spending_bounds (λ s. first_on (statements_in l.table.entries) s) (l.i + 1) (map rule_of (drop l.i l.rules)))
    ≡ spending_bounds (λ s. first_on (statements_in l.table.entries) s) 1 (map rule_of l.rules)
