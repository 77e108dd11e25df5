use Rattle.std.proofs.Common.{ap, ◌∙◌}
use Rattle.std.proofs.lemmas.Option.{IfSome_then}
use Rattle.sparse_columns.specs.Numbers.{total_of}
use Rattle.sparse_columns.proofs.RowSums.{total-is}
use Rattle.sparse_columns.proofs.cells.Cells.total.Goals as goal

pub returns : goal.returns
returns c = IfSome_then c.sum_of.result c.sum_of.ensures (λ sum is m outside.
    is ∙ (ap total_of c.as_slice.ensures.value ∙ total-is c.args.self.now.items.items m c.args.self.now.ascending outside))
