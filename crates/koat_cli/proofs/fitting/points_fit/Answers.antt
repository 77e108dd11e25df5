use Rattle.cert_types.specs.AnswerViews.{scaled_of}
use Rattle.report_text.specs.Printable.{IsPrintablePoint}
use Rattle.koat_cli.proofs.FittingReports.{each-step}
use Rattle.koat_cli.proofs.fitting.points_fit.Goals as goal

pub loop-point-preserved : goal.loop-point-preserved
loop-point-preserved c =
    each-step IsPrintablePoint scaled_of c.args.points.now c.loop-point.point-index c.point-item.result
    c.loop-point-test.true c.point-item.is c.loop-point.invariant c.point_fits.ensures
