use Rattle.std.proofs.Common.{◌≡◌, ◌++◌, replicate}
use Rattle.std.specs.Prelude.{pos}
use Rattle.lp_builder.proofs.costs.with_zeros.Given as goal

-- the numbers with the remaining zeros are all numbers
abbrev pub invariant-loop-left : goal.invariant-loop-left
invariant-loop-left l = l.all.items ++ replicate l.left (pos 0) ≡ l.fn.numbers.items ++ replicate l.zeros (pos 0)

abbrev pub decreases-loop-left : goal.decreases-loop-left
decreases-loop-left l = l.left
