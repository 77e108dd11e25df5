use Rattle.std.proofs.Common.{length}
use Rattle.local_size.proofs.search.+search_kinds.Given as goal

abbrev pub decreases-search_kinds : goal.decreases-search_kinds
decreases-search_kinds l = length l.kinds.now
