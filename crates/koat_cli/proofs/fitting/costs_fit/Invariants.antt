use Rattle.std.proofs.Common.{map, take}
use Rattle.std.specs.List.{AllByRecursion}
use Rattle.std.specs.Option.{option_map}
use Rattle.outcome.specs.Views.{cost_of}
use Rattle.koat_cli.specs.FittingReports.{CostFits}
use Rattle.koat_cli.proofs.fitting.costs_fit.Given as goal

-- the numbers of the costs before this one fit
abbrev pub invariant-loop-entry : goal.invariant-loop-entry
invariant-loop-entry l = AllByRecursion CostFits (map (option_map cost_of) (take l.entry-index l.costs))
