use Rattle.std.proofs.Common.{◌≡◌, ℕ, drop}
use Rattle.std.specs.Prelude.{◌+ℤ◌, ◌*ℤ◌}
use Rattle.sparse_columns.specs.Numbers.{number}
use Rattle.sparse_columns.specs.Wide.{wide_number}
use Rattle.sparse_columns.proofs.column.divided_cells.Given as goal

-- what has been put times the divisor, and the remaining numbers, are all numbers
abbrev pub invariant-loop-number : goal.invariant-loop-number
invariant-loop-number l =
    (i : ℕ) → number l.cells i *ℤ l.divisor +ℤ wide_number (drop l.number-index l.wide) i ≡ wide_number l.wide i
