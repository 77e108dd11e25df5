use Rattle.std.proofs.Common.{map, take}
use Rattle.std.specs.List.{AllByRecursion}
use Rattle.outcome.specs.Views.{size_of}
use Rattle.koat_cli.specs.FittingReports.{SizeFits}
use Rattle.koat_cli.proofs.fitting.rows_fit.Given as goal

-- the numbers of the sizes after the rules before this one fit
abbrev pub invariant-loop-row : goal.invariant-loop-row
invariant-loop-row l = AllByRecursion (AllByRecursion SizeFits) (map (λ row. map size_of row.items) (take l.row-index l.rows))
