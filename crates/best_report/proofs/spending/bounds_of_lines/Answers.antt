use Rattle.best_report.specs.Statements.{statements_in}
use Rattle.best_report.proofs.SpendingTables.{line-taken, lines-taken}
use Rattle.best_report.proofs.spending.bounds_of_lines.Goals as goal

pub loop-line-preserved : goal.loop-line-preserved
loop-line-preserved c s =
    line-taken (statements_in c.loop-line.table.entries) (statements_in c.add_line.new.table.entries) c.args.lines.now
    c.loop-line.line-index c.line-item.result s _ c.loop-line-test.true c.line-item.is (c.in_ok-add_line.ensures s)
    (c.loop-line.invariant s)

pub returns : goal.returns
returns c s =
    lines-taken (statements_in c.loop-line.table.entries) c.args.lines.now c.loop-line.line-index s _
    c.loop-line-test.false (c.loop-line.invariant s)
