use Rattle.std.proofs.Common.{arith, ◌∙◌}
use Rattle.std.specs.Prelude.{pos}
use Rattle.simplex_core.specs.Positions.{InTable}
use Rattle.simplex_core.proofs.Signs.{positive-shows}
use Rattle.simplex_core.proofs.Choices.{int_lt-true}
use Rattle.simplex_core.proofs.Ranges.{in_range-small}
use Rattle.simplex_core.proofs.PivotedTable.{pivot-shows}
use Rattle.simplex_core.proofs.sparse_table.method.SparseTableSimplexTable.advance.Goals as goal

pub leaving_row-requires-clause-small : goal.leaving_row-requires-clause-small
leaving_row-requires-clause-small c = in_range-small c.requires.p c.args.self.now c.requires.t c.requires.shown.shows c.requires.in_range

pub pivot-requires-clause-small : goal.pivot-requires-clause-small
pivot-requires-clause-small c = in_range-small c.requires.p c.args.self.now c.requires.t c.requires.shown.shows c.requires.in_range

pub pivot-requires-clause-positive : goal.pivot-requires-clause-positive
pivot-requires-clause-positive c f is =
    let given = c.requires in
    let shows = given.shown.shows in
    let best = c.in-Some.ensures.best given.p given.t shows in
    let row = c.in-Some.row in
    let column = c.args.column in
    let rows = shows.rows in
    let columns = shows.columns in
    let inside : InTable given.p.rows given.p.columns row column = record { row = let l = best.row in omega arith; column = let l = given.column in omega arith; cost = λ k. let l = given.column in omega arith } in
    int_lt-true (pos 0) f.num
    (positive-shows f.num f.den (given.t.entry row column) (given.t.scale row) f.positive (shows.positive row inside.row) (shows.numbers row column f inside is)
    ∙ best.candidate)

pub unreachable-requires : goal.unreachable-requires
unreachable-requires c =
    let given = c.requires in
    let none = c.in_default.ensures.best given.p given.t given.shown.shows given.row given.within in
    let here = given.candidate in
    cc

pub returns : goal.returns
returns c = record {
  row = c.in-Some.row;
  best = λ p t s. c.in-Some.ensures.best p t s.shows;
  pivoted = λ p t s.
      let shows = s.shows in
      let best = c.in-Some.ensures.best p t shows in
      let columns = shows.columns in
      let own = c.requires.shown.shows.columns in
      let l = c.requires.column in
      record {
        shows = pivot-shows p c.args.self.now c.pivot.new.self t c.in-Some.row c.args.column shows c.in_ok-pivot.ensures.pivoted best.row (omega arith)
            (int_lt-true (pos 0) (t.entry c.in-Some.row c.args.column) best.candidate);
        range = c.in_ok-pivot.ensures.tested;
      };
}
