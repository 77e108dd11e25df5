use Rattle.std.proofs.Common.{length}
use Rattle.potential_search.proofs.shape.+are_number_lists.Given as goal

abbrev pub decreases-are_number_lists : goal.decreases-are_number_lists
decreases-are_number_lists l = length l.lists.now
