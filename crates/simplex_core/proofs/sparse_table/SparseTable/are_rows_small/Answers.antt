use Rattle.std.proofs.Common.{arith}
use Rattle.simplex_core.proofs.sparse_table.SparseTable.are_rows_small.Goals as goal

pub returns : goal.returns
returns c = record {
  each = λ i j f inside is. let l = inside.row in (c.loop-row.invariant i (omega arith)).each j f inside is;
}
