use Rattle.std.proofs.lemmas.Result.{IfOk-weaker}
use Rattle.simplex_core.proofs.ColumnResults.{columns_dual-read}
use Rattle.simplex_core.proofs.column_table.method.ColumnTableSimplexTable.dual.Goals as goal

pub returns : goal.returns
returns c =
    IfOk-weaker c.dual_numbers.result _ _
    (λ dual holds. record { each = λ p t s sides. columns_dual-read p c.args.self.now t c.args.right.now dual.items s sides holds })
    c.dual_numbers.ensures
