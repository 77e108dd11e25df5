use Rattle.std.proofs.Common.{ap, ◌∙◌, List}
use Rattle.sparse_columns.specs.declared.cell.Cell.{Cell}
use Rattle.sparse_columns.specs.Numbers.{number_of}
use Rattle.sparse_columns.proofs.Inserts.{number_of-insert}
use Rattle.sparse_columns.proofs.cells.Cells.insert.Goals as goal

pub returns : goal.returns
returns c _ i =
    ap (λ (xs : List Cell). number_of xs i) c.in_ok-insert.ensures.items
    ∙ number_of-insert c.args.self.now.items.items c.first_from-position.result c.args.cell i
