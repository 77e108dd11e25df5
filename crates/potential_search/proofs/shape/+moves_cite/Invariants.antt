use Rattle.std.proofs.Common.{length}
use Rattle.potential_search.proofs.shape.+moves_cite.Given as goal

abbrev pub decreases-moves_cite : goal.decreases-moves_cite
decreases-moves_cite l = length l.moves.now
