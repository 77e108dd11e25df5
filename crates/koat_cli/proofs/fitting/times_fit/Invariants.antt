use Rattle.std.proofs.Common.{map, take}
use Rattle.std.specs.List.{AllByRecursion}
use Rattle.outcome.specs.Views.{time_of}
use Rattle.koat_cli.specs.FittingReports.{TimeFits}
use Rattle.koat_cli.proofs.fitting.times_fit.Given as goal

-- the numbers of the times before this one fit
abbrev pub invariant-loop-entry : goal.invariant-loop-entry
invariant-loop-entry l = AllByRecursion TimeFits (map (time_of l.gaps) (take l.entry-index l.times))
