use Rattle.outcome.specs.Views.{time_of}
use Rattle.koat_cli.specs.FittingReports.{TimeFits}
use Rattle.koat_cli.proofs.FittingReports.{each-step}
use Rattle.koat_cli.proofs.fitting.times_fit.Goals as goal

pub loop-entry-preserved : goal.loop-entry-preserved
loop-entry-preserved c =
    each-step TimeFits (time_of c.args.gaps.now) c.args.times.now c.loop-entry.entry-index c.entry-item.result
    c.loop-entry-test.true c.entry-item.is c.loop-entry.invariant c.time_fits.ensures
