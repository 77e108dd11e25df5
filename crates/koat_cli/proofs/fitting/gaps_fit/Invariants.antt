use Rattle.std.proofs.Common.{map, take}
use Rattle.std.specs.List.{AllByRecursion}
use Rattle.cert_types.specs.AnswerViews.{gap_of}
use Rattle.koat_cli.specs.FittingReports.{HasShortNumbers}
use Rattle.koat_cli.proofs.fitting.gaps_fit.Given as goal

-- the numbers of the gaps before this one fit
abbrev pub invariant-loop-gap : goal.invariant-loop-gap
invariant-loop-gap l = AllByRecursion HasShortNumbers (map gap_of (take l.gap-index l.gaps))
