use Rattle.std.proofs.Common.{length}
use Rattle.check_potentials.proofs.squares.+push_square_rows.Given as goal

abbrev pub decreases-push_square_rows : goal.decreases-push_square_rows
decreases-push_square_rows l = length l.updates.now
