use Rattle.std.proofs.Common.{◌≡◌, sym, ◌∙◌, arith, true, false, add-one}
use Rattle.std.specs.Prelude.{pos, int_lt, nat_le, ◌&&◌}
use Rattle.simplex_core.specs.Tableau.{unknowns}
use Rattle.simplex_core.proofs.Searches.{some-more, some-here}
use Rattle.simplex_core.proofs.column_table.ColumnTable.has_artificial.Goals as goal

pub loop-row-preserved : goal.loop-row-preserved
loop-row-preserved c p t shows =
    let answer = c.is_artificial_over_zero.ensures p t shows in
    let fails : c.is_artificial_over_zero.result ≡ false = c.if-is_artificial_over_zero.false in
    rw (add-one c.loop-row.row)
    (some-more c.loop-row.row (λ i. nat_le p.columns (t.basis i) && int_lt (pos 0) (t.entry i (unknowns p))) (c.loop-row.invariant p t shows) (sym answer ∙ fails))

pub returns-then-is_artificial_over_zero : goal.returns-then-is_artificial_over_zero
returns-then-is_artificial_over_zero c p t shows =
    let answer = c.is_artificial_over_zero.ensures p t shows in
    let passes : c.is_artificial_over_zero.result ≡ true = c.if-is_artificial_over_zero.true in
    let rows = shows.rows in
    let below = c.loop-row-test.true in
    sym (some-here p.rows c.loop-row.row (λ i. nat_le p.columns (t.basis i) && int_lt (pos 0) (t.entry i (unknowns p))) (omega arith) (sym answer ∙ passes))
