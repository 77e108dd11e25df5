use Rattle.sparse_rows.proofs.Merged.{entry-joined, entry-beyond}
use Rattle.sparse_rows.proofs.multiple.PlusMultipleJoinTuple2U32Frac.join.Goals as goal

pub returns-in-Ok-clause-joined : goal.returns-in-Ok-clause-joined
returns-in-Ok-clause-joined c =
    entry-joined c.args.place c.args.self.now.by c.value_of.result c.value_of-2.result c.in-Ok.sum c.args.left c.args.right c.entry.result c.value_of.ensures c.value_of-2.ensures
    c.in-Ok.ensures.0 c.in-Ok.ensures.1 c.entry.ensures

pub returns-in-Err-clause-joined : goal.returns-in-Err-clause-joined
returns-in-Err-clause-joined c =
    entry-beyond c.args.self.now.by c.value_of.result c.value_of-2.result c.args.left c.args.right c.value_of.ensures c.value_of-2.ensures c.in-Err.ensures
