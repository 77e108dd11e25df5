use Rattle.koat_cli.proofs.FittingReports.{bases-step}
use Rattle.koat_cli.proofs.fitting.+bases.Goals as goal

pub all_bases_fit-loop-part-preserved : goal.all_bases_fit-loop-part-preserved
all_bases_fit-loop-part-preserved t c =
    bases-step c.args.parts.now c.loop-part.part-index c.part-item.result c.loop-part-test.true c.part-item.is
    c.loop-part.invariant c.bases_fit.ensures
