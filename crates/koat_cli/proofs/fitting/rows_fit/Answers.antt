use Rattle.std.proofs.Common.{List, map, subst}
use Rattle.std.specs.List.{AllByRecursion}
use Rattle.outcome.specs.Views.{size_of}
use Rattle.outcome.specs.declared.entry.SizeEntry.{SizeEntry}
use Rattle.koat_cli.specs.FittingReports.{SizeFits}
use Rattle.koat_cli.proofs.FittingReports.{each-step}
use Rattle.koat_cli.proofs.fitting.rows_fit.Goals as goal

pub loop-row-preserved : goal.loop-row-preserved
loop-row-preserved c =
    each-step (AllByRecursion SizeFits) (λ row. map size_of row.items) c.args.rows.now c.loop-row.row-index
    c.row-item.result c.loop-row-test.true c.row-item.is c.loop-row.invariant
    (subst (λ (sizes : List SizeEntry). AllByRecursion SizeFits (map size_of sizes)) c.deref.ensures.value
    c.sizes_fit.ensures)
