use Rattle.outcome.specs.Views.{size_of}
use Rattle.koat_cli.specs.FittingReports.{SizeFits}
use Rattle.koat_cli.proofs.FittingReports.{each-step}
use Rattle.koat_cli.proofs.fitting.sizes_fit.Goals as goal

pub loop-entry-preserved : goal.loop-entry-preserved
loop-entry-preserved c =
    each-step SizeFits size_of c.args.sizes.now c.loop-entry.entry-index c.entry-item.result
    c.loop-entry-test.true c.entry-item.is c.loop-entry.invariant c.size_fits.ensures
