use Rattle.signed_bounds.proofs.Squares.{squares_are_safe}
use Rattle.signed_bounds.proofs.laws.squares_are_safe.Goals as goal

pub returns : goal.returns
returns c = squares_are_safe
