use Rattle.std.proofs.Common.{◌≡◌, drop, map}
use Rattle.cert_types.specs.cert_rules.GapChecks.{point_of}
use Rattle.cert_types.specs.AnswerViews.{scaled_of}
use Rattle.gap_checks.proofs.gap_points.den_of.Given as goal

abbrev pub invariant-loop-i : goal.invariant-loop-i
invariant-loop-i l =
    (point_of (drop l.i l.set) (map scaled_of (drop l.i l.points)) l.rule).den
    ≡ (point_of l.set (map scaled_of l.points) l.rule).den
