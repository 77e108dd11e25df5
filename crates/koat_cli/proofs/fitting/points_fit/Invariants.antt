use Rattle.std.proofs.Common.{map, take}
use Rattle.std.specs.List.{AllByRecursion}
use Rattle.cert_types.specs.AnswerViews.{scaled_of}
use Rattle.report_text.specs.Printable.{IsPrintablePoint}
use Rattle.koat_cli.proofs.fitting.points_fit.Given as goal

-- the numbers of the points before this one fit
abbrev pub invariant-loop-point : goal.invariant-loop-point
invariant-loop-point l = AllByRecursion IsPrintablePoint (map scaled_of (take l.point-index l.points))
