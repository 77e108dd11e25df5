use Rattle.std.proofs.Common.{length}
use Rattle.numbers_tests.proofs.row_pairs.+is_row_from.Given as goal

-- each call takes one pair off the list
abbrev pub decreases-is_row_from : goal.decreases-is_row_from
decreases-is_row_from l = length l.pairs.now
