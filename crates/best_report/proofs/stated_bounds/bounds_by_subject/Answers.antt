use Rattle.best_report.specs.Statements.{statements_in}
use Rattle.best_report.proofs.StatementTables.{taken-up, all-taken}
use Rattle.best_report.proofs.stated_bounds.bounds_by_subject.Goals as goal

pub loop-statement-preserved : goal.loop-statement-preserved
loop-statement-preserved c s =
    taken-up (statements_in c.loop-statement.table.entries) (statements_in c.add_statement.new.table.entries) c.args.stated.now
    c.loop-statement.statement-index c.statement-item.result s _ c.loop-statement-test.true c.statement-item.is
    (c.in_ok-add_statement.ensures s) (c.loop-statement.invariant s)

pub returns : goal.returns
returns c s =
    all-taken (statements_in c.loop-statement.table.entries) c.args.stated.now c.loop-statement.statement-index s _
    c.loop-statement-test.false (c.loop-statement.invariant s)
