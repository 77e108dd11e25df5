use Rattle.simplex_core.proofs.TableLines.{zeros-hold, empty-bounded}
use Rattle.simplex_core.proofs.sparse_table.SparseTable.zeros.Goals as goal

pub invariant_of-result-clause-bounded : goal.invariant_of-result-clause-bounded
invariant_of-result-clause-bounded c = empty-bounded c.in_ok-lines.lines.items _ c.in_ok-lines.ensures.each

pub returns-clause-whole : goal.returns-clause-whole
returns-clause-whole c = zeros-hold _ c.in_ok-lines.ensures.each c.in_ok-right.ensures.each.each
