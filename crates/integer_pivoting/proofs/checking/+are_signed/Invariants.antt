use Rattle.std.proofs.Common.{length}
use Rattle.integer_pivoting.proofs.checking.+are_signed.Given as goal

abbrev pub decreases-are_signed : goal.decreases-are_signed
decreases-are_signed l = length l.columns.now
