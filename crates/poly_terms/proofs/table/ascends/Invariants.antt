use Rattle.std.proofs.Common.{◌≡◌, drop}
use Rattle.poly_terms.specs.Keys.{ascend_from}
use Rattle.poly_terms.proofs.table.ascends.Given as goal

-- The remaining elements decide the answer.
abbrev pub invariant-loop-v : goal.invariant-loop-v
invariant-loop-v l = ascend_from l.next (drop l.v-index l.table) ≡ ascend_from 0 l.table
