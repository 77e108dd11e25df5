use Rattle.std.proofs.Common.{◌∙◌, ap, arith}
use Rattle.cert_types.specs.cert_rules.Gaps.{ScaledPoint}
use Rattle.gap_checks.proofs.GapPositions.{point-passed}
use Rattle.gap_checks.proofs.gap_points.den_of.Goals as goal

pub loop-i-preserved : goal.loop-i-preserved
loop-i-preserved c =
    ap (λ (z : ScaledPoint). z.den)
    (point-passed c.args.set.now c.args.points.now c.loop-i.i c.args.rule c.requires (omega arith) c.if-set-i.false)
    ∙ c.loop-i.invariant
