use Rattle.std.specs.Prelude.{pos, ◌<ℤ◌}
use Rattle.sparse_columns.proofs.column.divisor_of.Given as goal

-- the divisor is above 0
abbrev pub invariant-loop-number : goal.invariant-loop-number
invariant-loop-number l = pos 0 <ℤ l.divisor
