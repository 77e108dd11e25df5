use Rattle.std.proofs.Common.{◌≡◌, ℕ, ◌+◌, ◌∙◌, sym, subst, arith, List}
use Rattle.std.proofs.lemmas.Int.{ints}
use Rattle.sparse_columns.specs.declared.column.Column.{Column}
use Rattle.simplex_core.specs.ColumnBuilding.{AreColumns, with_units}
use Rattle.simplex_core.proofs.ColumnLists.{units-none, units-more}
use Rattle.simplex_core.proofs.column_table.first.push_units.Goals as goal

pub loop-row-init : goal.loop-row-init
loop-row-init c n g are = units-none c.args.columns.now.items n g are

pub loop-row-preserved : goal.loop-row-preserved
loop-row-preserved c n g are =
    let puts = c.in_ok-put.ensures c.if-not-branch.false in
    subst (λ (xs : List Column). AreColumns xs (n + (c.loop-row.row + 1)) (with_units n g)) (sym c.in_ok-push.ensures.items)
    (units-more c.loop-row.columns.items n c.loop-row.row g c.put.new.self (c.loop-row.invariant n g are)
    (λ i. let zero = c.zeros-column.ensures.numbers i in let put = puts.numbers i in omega (arith, ints, zero, put))
    (puts.den ∙ c.zeros-column.ensures.den))

pub returns : goal.returns
returns c _ n g are =
    let end = c.loop-row.auto.row-end in
    let done = c.loop-row-test.false in
    let all : c.loop-row.row ≡ c.args.rows = omega (arith, end, done) in
    subst (λ (m : ℕ). AreColumns c.loop-row.columns.items (n + m) (with_units n g)) all (c.loop-row.invariant n g are)
