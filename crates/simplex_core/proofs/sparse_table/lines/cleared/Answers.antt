use Rattle.std.proofs.Common.{◌≡◌, ℕ, Ok}
use Rattle.std.specs.Prelude.{List}
use Rattle.frac128.specs.declared.frac.Frac.{Frac}
use Rattle.sparse_rows.specs.Rows.{fraction_at}
use Rattle.simplex_core.specs.Cells.{IsLessMultiple}
use Rattle.simplex_core.proofs.LineArithmetic.{no-range, summed, where-ok, clear-within, line-cleared}
use Rattle.simplex_core.proofs.sparse_table.lines.cleared.Goals as goal

pub added-requires : goal.added-requires
added-requires c =
    let line = c.args.line.now in
    let by = c.difference-by.result in
    no-range line by c.args.other.now c.plus_multiple.result c.plus_multiple.ensures
    (clear-within line c.args.other.now c.args.factor by c.whole.result c.whole.ensures.0 c.whole.ensures.1 c.difference-by.ensures
    c.requires.small c.requires.factor_small c.requires.bounded)

pub returns : goal.returns
returns c =
    let line = c.args.line.now in
    let other = c.args.other.now in
    let by = c.difference-by.result in
    where-ok (λ (new : List (ℕ × Frac)). c.plus_multiple.result ≡ Ok new)
    (λ (new : List (ℕ × Frac)). (j : ℕ) → IsLessMultiple (fraction_at line j) c.args.factor (fraction_at other j) (fraction_at new j)) c.added.result
    (λ new is. line-cleared line other c.args.factor by c.whole.result c.whole.ensures.0 c.whole.ensures.1 c.difference-by.ensures
    c.requires.small c.requires.factor_small c.requires.bounded new (summed line by other c.plus_multiple.result new c.plus_multiple.ensures is))
    c.added.ensures
