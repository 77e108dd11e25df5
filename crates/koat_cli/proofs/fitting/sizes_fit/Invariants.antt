use Rattle.std.proofs.Common.{map, take}
use Rattle.std.specs.List.{AllByRecursion}
use Rattle.outcome.specs.Views.{size_of}
use Rattle.koat_cli.specs.FittingReports.{SizeFits}
use Rattle.koat_cli.proofs.fitting.sizes_fit.Given as goal

-- the numbers of the sizes before this one fit
abbrev pub invariant-loop-entry : goal.invariant-loop-entry
invariant-loop-entry l = AllByRecursion SizeFits (map size_of (take l.entry-index l.sizes))
