use Rattle.std.proofs.Common.{◌≡◌, sym, ◌∙◌, subst, true, false, Option, arith}
use Rattle.std.proofs.lemmas.Int.{ints}
use Rattle.sparse_columns.specs.declared.cell.Cell.{Cell}
use Rattle.simplex_core.specs.Bland.{goes_before}
use Rattle.simplex_core.specs.ColumnTables.{IsBestCell}
use Rattle.simplex_core.proofs.CellChoices.{best_cell-keeps, best_cell-first, best_cell-changes, best_cell-stays, cell-candidate, cell-no_candidate}
use Rattle.simplex_core.proofs.column_table.ColumnTable.better.Goals as goal

pub returns-then-value-lt0-clause-best : goal.returns-then-value-lt0-clause-best
returns-then-value-lt0-clause-best c p t cells k shows is best =
    let value = c.value.ensures.value in
    let bounded = c.value.ensures.bounded in
    let below = c.if-value-lt0.true in
    best_cell-keeps p t c.args.column cells k c.args.cell c.args.best is
    (cell-no_candidate p c.args.self.now t c.args.column c.args.cell shows c.requires.column c.requires.cell (omega (arith, ints, value, bounded, below))) best

pub returns-in-None-clause-best : goal.returns-in-None-clause-best
returns-in-None-clause-best c p t cells k shows is best =
    let value = c.value.ensures.value in
    let bounded = c.value.ensures.bounded in
    let nonzero = c.value.ensures.nonzero in
    let above = c.if-value-lt0.false in
    best_cell-first p t c.args.column cells k c.args.cell is
    (cell-candidate p c.args.self.now t c.args.column c.args.cell shows c.requires.column c.requires.cell (omega (arith, ints, value, bounded, nonzero, above)))
    (subst (λ (o : Option Cell). IsBestCell p t c.args.column cells k o) c.in-None.is best)

pub returns-then-goes_before-clause-best : goal.returns-then-goes_before-clause-best
returns-then-goes_before-clause-best c p t cells k shows is best =
    let value = c.value.ensures.value in
    let bounded = c.value.ensures.bounded in
    let nonzero = c.value.ensures.nonzero in
    let above = c.if-value-lt0.false in
    let goes : goes_before p t c.args.column c.args.cell.row c.in-Some.before.row ≡ true = sym (c.goes_before.ensures p t shows) ∙ c.if-goes_before.true in
    best_cell-changes p t c.args.column cells k c.args.cell c.in-Some.before is
    (cell-candidate p c.args.self.now t c.args.column c.args.cell shows c.requires.column c.requires.cell (omega (arith, ints, value, bounded, nonzero, above)))
    goes (subst (λ (o : Option Cell). IsBestCell p t c.args.column cells k o) c.in-Some.is best)

pub returns-else-goes_before-clause-best : goal.returns-else-goes_before-clause-best
returns-else-goes_before-clause-best c p t cells k shows is best =
    let stays : goes_before p t c.args.column c.args.cell.row c.in-Some.before.row ≡ false = sym (c.goes_before.ensures p t shows) ∙ c.if-goes_before.false in
    best_cell-stays p t c.args.column cells k c.args.cell c.in-Some.before is stays (subst (λ (o : Option Cell). IsBestCell p t c.args.column cells k o) c.in-Some.is best)
