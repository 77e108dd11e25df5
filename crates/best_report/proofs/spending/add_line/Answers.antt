use Rattle.std.proofs.Common.{ap, option_map}
use Rattle.signed_bounds.specs.Views.{signed_of}
use Rattle.best_report.specs.Statements.{first_on, statements_in}
use Rattle.best_report.proofs.SpendingTables.{nothing-more}
use Rattle.best_report.proofs.spending.add_line.Goals as goal

pub returns-in-None : goal.returns-in-None
returns-in-None c s =
    nothing-more (first_on (statements_in c.args.table.now.entries) s) c.args.line.now.subject s
    (option_map signed_of c.args.line.now.bound) (ap (option_map signed_of) c.in-None.is)
