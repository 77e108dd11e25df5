use Rattle.std.proofs.Common.{◌≡◌, length}
use Rattle.simplex_core.specs.Lines.{AreAllZero}
use Rattle.simplex_core.proofs.sparse_table.numbers.zero_sides.Given as goal

-- the right sides built so far are 0
abbrev pub invariant-loop-made : goal.invariant-loop-made
invariant-loop-made l = record { length_is : length l.sides.items ≡ l.made; zeros : AreAllZero l.sides.items }
