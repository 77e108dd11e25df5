use Rattle.std.proofs.Common.{arith}
use Rattle.std.specs.Prelude.{pos}
use Rattle.simplex_core.proofs.Choices.{int_lt-true}
use Rattle.simplex_core.proofs.Halts.{made_or_given_up}
use Rattle.simplex_core.proofs.PivotedColumns.{pivoted-shows}
use Rattle.simplex_core.proofs.column_table.method.ColumnTableSimplexTable.advance.Goals as goal

pub unreachable-requires : goal.unreachable-requires
unreachable-requires c =
    let given = c.requires in
    let none = c.in_default.ensures.best given.p given.t given.shown given.row given.within in
    let here = given.candidate in
    cc

pub returns : goal.returns
returns c = made_or_given_up c.pivot.result _ _ (λ _ made. record {
  row = c.in-Some.cell.row;
  best = λ p t s. c.in-Some.ensures.best p t s;
  pivoted = λ p t s.
      let best = c.in-Some.ensures.best p t s in
      let columns = c.requires.shown.columns in
      let below = c.requires.column in
      pivoted-shows p c.args.self.now c.pivot.new.self t c.in-Some.cell.row c.args.column made.0 made.1 s made.2 best.row (omega (arith, columns, below))
      (int_lt-true (pos 0) (t.entry c.in-Some.cell.row c.args.column) best.candidate);
}) c.pivot.ensures

pub pivot-requires-clause-beside : goal.pivot-requires-clause-beside
pivot-requires-clause-beside c = c.requires.shown.beside
