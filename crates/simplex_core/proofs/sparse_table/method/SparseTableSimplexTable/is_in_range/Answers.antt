use Rattle.std.proofs.Common.{refl}
use Rattle.simplex_core.proofs.Ranges.{range-decided}
use Rattle.simplex_core.proofs.sparse_table.method.SparseTableSimplexTable.is_in_range.Goals as goal

pub returns : goal.returns
returns c = range-decided c.args.self.now c.args.self.now.is_small refl
