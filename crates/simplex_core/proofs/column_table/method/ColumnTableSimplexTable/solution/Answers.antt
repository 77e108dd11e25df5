use Rattle.std.proofs.lemmas.Result.{IfOk-weaker}
use Rattle.simplex_core.proofs.ColumnResults.{columns_solution-read}
use Rattle.simplex_core.proofs.column_table.method.ColumnTableSimplexTable.solution.Goals as goal

pub returns : goal.returns
returns c =
    IfOk-weaker c.basic_numbers.result _ _ (λ at holds. record { each = λ p t s. columns_solution-read p c.args.self.now t at.items s holds })
    c.basic_numbers.ensures
