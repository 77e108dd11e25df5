use Rattle.std.proofs.Common.{subst, sym}
use Rattle.outcome.specs.Views.{time_of}
use Rattle.outcome.specs.declared.entry.TimeEntry.{TimeEntry}
use Rattle.koat_cli.specs.FittingReports.{TimeFits}
use Rattle.koat_cli.proofs.FittingReports.{numbered_fits}
use Rattle.koat_cli.proofs.fitting.time_fits.Goals as goal

pub returns-in-Gap : goal.returns-in-Gap
returns-in-Gap c =
    let gaps = c.args.gaps.now in
    subst (λ (entry : TimeEntry). TimeFits (time_of gaps entry)) (sym c.in-Gap.is)
    (numbered_fits gaps c.in-Gap.gap c.requires)
