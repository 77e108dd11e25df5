use Rattle.std.proofs.Common.{ap, ◌∙◌, sym, List, take, subst}
use Rattle.sparse_columns.specs.declared.cell.Cell.{Cell}
use Rattle.sparse_columns.specs.Order.{IsAscending}
use Rattle.sparse_columns.specs.Numbers.{number_of, AreNumbers}
use Rattle.sparse_columns.proofs.Lookups.{number_of-before, front-numbers}
use Rattle.sparse_columns.proofs.cells.Cells.before.Goals as goal

pub returns : goal.returns
returns c =
    let cells = c.as_slice-cells.result.now in
    let p = c.first_from_behind.result in
    let value = c.as_slice-cells.ensures.value in
    record {
      numbers = λ i l. number_of-before cells p c.args.row i c.first_from_behind.ensures.from l ∙ ap (λ (xs : List Cell). number_of xs i) value;
      lists = subst (λ (xs : List Cell). AreNumbers (take p cells) (number_of xs) c.args.row) value
          (front-numbers cells p c.args.row (subst IsAscending (sym value) c.args.self.now.ascending) c.first_from_behind.ensures.before c.first_from_behind.ensures.from);
    }
