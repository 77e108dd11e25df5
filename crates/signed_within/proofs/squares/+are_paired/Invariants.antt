use Rattle.std.proofs.Common.{length}
use Rattle.signed_within.proofs.squares.+are_paired.Given as goal

abbrev pub decreases-are_paired : goal.decreases-are_paired
decreases-are_paired l = length l.vars.now
