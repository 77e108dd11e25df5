use Rattle.std.proofs.lemmas.Result.{IfOk-weaker}
use Rattle.simplex_core.proofs.Ranges.{in_range-small}
use Rattle.simplex_core.proofs.BasicNumbers.{dual-read}
use Rattle.simplex_core.proofs.sparse_table.method.SparseTableSimplexTable.dual.Goals as goal

pub dual_numbers-requires-clause-small : goal.dual_numbers-requires-clause-small
dual_numbers-requires-clause-small c = in_range-small c.requires.p c.args.self.now c.requires.t c.requires.shown.shows c.requires.in_range

pub returns : goal.returns
returns c =
    IfOk-weaker c.dual_numbers.result _ _
    (λ dual holds. record { each = λ p t s sides. dual-read p c.args.self.now t c.args.right.now dual.items s.shows sides holds })
    c.dual_numbers.ensures
