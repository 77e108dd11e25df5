use Rattle.std.proofs.Common.{◌≡◌, sym, ◌∙◌, arith, true, false}
use Rattle.simplex_core.specs.Bland.{may_enter}
use Rattle.simplex_core.proofs.Leaving.{least-here, least-more}
use Rattle.std.proofs.Common.{add-one}
use Rattle.simplex_core.proofs.column_table.ColumnTable.least_entering.Goals as goal

pub loop-column-init : goal.loop-column-init
loop-column-init c p t shows = c.start-column.ensures.none p t shows

pub loop-column-preserved : goal.loop-column-preserved
loop-column-preserved c p t shows =
    let fails : c.may_enter.result ≡ false = c.if-may_enter.false in
    rw (add-one c.loop-column.column)
    (least-more c.loop-column.column (may_enter p t c.args.cost) (c.loop-column.invariant p t shows) (sym (c.may_enter.ensures p t shows) ∙ fails))

pub returns-then-may_enter : goal.returns-then-may_enter
returns-then-may_enter c p t shows =
    let passes : c.may_enter.result ≡ true = c.if-may_enter.true in
    let columns = shows.columns in
    let below = c.loop-column-test.true in
    sym (least-here c.loop-column.column p.columns (may_enter p t c.args.cost) (omega arith) (c.loop-column.invariant p t shows)
    (sym (c.may_enter.ensures p t shows) ∙ passes))
