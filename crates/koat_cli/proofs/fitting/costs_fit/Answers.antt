use Rattle.std.specs.Option.{option_map}
use Rattle.outcome.specs.Views.{cost_of}
use Rattle.koat_cli.specs.FittingReports.{CostFits}
use Rattle.koat_cli.proofs.FittingReports.{each-step}
use Rattle.koat_cli.proofs.fitting.costs_fit.Goals as goal

pub loop-entry-preserved : goal.loop-entry-preserved
loop-entry-preserved c =
    each-step CostFits (option_map cost_of) c.args.costs.now c.loop-entry.entry-index c.entry-item.result
    c.loop-entry-test.true c.entry-item.is c.loop-entry.invariant c.cost_fits.ensures
