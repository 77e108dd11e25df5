use Rattle.std.proofs.lemmas.Result.{IfOk-weaker}
use Rattle.simplex_core.proofs.BasicNumbers.{solution-read}
use Rattle.simplex_core.proofs.sparse_table.method.SparseTableSimplexTable.solution.Goals as goal

pub returns : goal.returns
returns c =
    IfOk-weaker c.basic_numbers.result _ _ (λ at holds. record { each = λ p t s. solution-read p c.args.self.now t at.items s.shows holds })
    c.basic_numbers.ensures
