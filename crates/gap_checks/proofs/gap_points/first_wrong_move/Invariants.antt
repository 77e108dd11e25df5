use Rattle.std.proofs.Common.{take, map}
use Rattle.std.specs.List.{All}
use Rattle.cert_types.specs.cert_rules.GapChecks.{MeetsAt, point_of}
use Rattle.cert_types.specs.AnswerViews.{scaled_of}
use Rattle.gap_checks.specs.GapTests.{forms_by}
use Rattle.gap_checks.proofs.gap_points.first_wrong_move.Given as goal

abbrev pub invariant-loop-i : goal.invariant-loop-i
invariant-loop-i l =
    All (λ t. MeetsAt (forms_by l.prepared_rules t).rows (point_of l.set (map scaled_of l.moves) t)) (take l.i l.set)
