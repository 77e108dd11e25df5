use Rattle.std.proofs.Common.{◌≡◌, map, option_map}
use Rattle.signed_bounds.specs.Views.{signed_of}
use Rattle.best_report.specs.Lines.{line_of}
use Rattle.best_report.specs.Spending.{with_bound_on_all}
use Rattle.best_report.proofs.totals.lines_with_bound_on_all.Given as goal

-- the lines passed have the bound on all steps where they had none
abbrev pub invariant-loop-line : goal.invariant-loop-line
invariant-loop-line l =
    map line_of l.all.items ≡ map (with_bound_on_all (option_map signed_of l.bound)) (map line_of l.yielded)
