use Rattle.std.proofs.Common.{List, map, sym, subst}
use Rattle.its_model.specs.Views.{program_of}
use Rattle.outcome.specs.Views.{report_of}
use Rattle.claims_check.specs.Views.{stated_of}
use Rattle.best_report.specs.Lines.{Line, line_of}
use Rattle.best_report.specs.Reports.{IsBestReport, UsesStatements}
use Rattle.best_report.proofs.TotalReports.{best-with-total, uses-with-total}
use Rattle.best_report.proofs.lines.report_lines.Goals as goal

pub returns-clause-best : goal.returns-clause-best
returns-clause-best c =
    let p = program_of c.args.p.now in
    let r = report_of c.args.outcome.now in
    subst (λ (lines : List Line). IsBestReport p r lines) (sym c.in_ok-all.ensures)
    (best-with-total p r (map line_of c.in_ok-lines.lines.items) c.in_ok-lines.ensures.best)

pub returns-clause-uses : goal.returns-clause-uses
returns-clause-uses c =
    let p = program_of c.args.p.now in
    let r = report_of c.args.outcome.now in
    let stated = map stated_of c.args.stated.now in
    subst (λ (lines : List Line). UsesStatements p r stated lines) (sym c.in_ok-all.ensures)
    (uses-with-total p r (map line_of c.in_ok-lines.lines.items) stated c.in_ok-lines.ensures.chosen)
