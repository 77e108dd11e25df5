use Rattle.std.proofs.Common.{◌≡◌, ℕ, Ok}
use Rattle.std.specs.Prelude.{List}
use Rattle.frac128.specs.declared.frac.Frac.{Frac}
use Rattle.simplex_core.specs.Lines.{IsLineBelow, IsLineDivided}
use Rattle.simplex_core.proofs.LineArithmetic.{no-range, summed, where-ok, divide-within, line-divided, line-divided-below}
use Rattle.simplex_core.proofs.sparse_table.lines.divided.Goals as goal

pub added-requires : goal.added-requires
added-requires c =
    let line = c.args.line.now in
    let inverse = c.quotient-inverse.result in
    no-range c.zeros.result inverse line c.plus_multiple-2.result c.plus_multiple-2.ensures
    (divide-within c.zeros.result line c.args.by inverse c.whole.result c.zeros.ensures c.whole.ensures.0 c.whole.ensures.1 c.quotient-inverse.ensures.exact
    c.requires.small c.requires.by_small c.quotient-inverse.ensures.bounded c.requires.positive)

pub returns-clause-divided : goal.returns-clause-divided
returns-clause-divided c =
    let line = c.args.line.now in
    let inverse = c.quotient-inverse.result in
    where-ok (λ (new : List (ℕ × Frac)). c.plus_multiple-2.result ≡ Ok new) (IsLineDivided line c.args.by) c.added.result
    (λ new is. line-divided c.zeros.result line c.args.by inverse c.whole.result c.zeros.ensures c.whole.ensures.0 c.whole.ensures.1 c.quotient-inverse.ensures.exact
    c.requires.small c.requires.by_small c.quotient-inverse.ensures.bounded c.requires.positive new (summed c.zeros.result inverse line c.plus_multiple-2.result new c.plus_multiple-2.ensures is))
    c.added.ensures

pub returns-clause-bounded : goal.returns-clause-bounded
returns-clause-bounded c =
    let line = c.args.line.now in
    let inverse = c.quotient-inverse.result in
    where-ok (λ (new : List (ℕ × Frac)). c.plus_multiple-2.result ≡ Ok new) (IsLineBelow 62) c.added.result
    (λ new is. line-divided-below c.zeros.result line c.args.by inverse c.whole.result c.zeros.ensures c.whole.ensures.0 c.whole.ensures.1 c.quotient-inverse.ensures.exact
    c.requires.small c.requires.by_small c.quotient-inverse.ensures.bounded c.requires.positive new (summed c.zeros.result inverse line c.plus_multiple-2.result new c.plus_multiple-2.ensures is))
    c.added.ensures
