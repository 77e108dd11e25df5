use Rattle.cert_types.specs.AnswerViews.{gap_of}
use Rattle.koat_cli.specs.FittingReports.{HasShortNumbers}
use Rattle.koat_cli.proofs.FittingReports.{each-step}
use Rattle.koat_cli.proofs.fitting.gaps_fit.Goals as goal

pub loop-gap-preserved : goal.loop-gap-preserved
loop-gap-preserved c =
    each-step HasShortNumbers gap_of c.args.gaps.now c.loop-gap.gap-index c.gap-item.result
    c.loop-gap-test.true c.gap-item.is c.loop-gap.invariant c.gap_fits.ensures
