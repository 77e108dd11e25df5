-- The piece changes the state as it changes terms, and one more piece is counted.
use Rattle.std.proofs.Common.{refl}
use Rattle.expr_reader.proofs.Standing.{moves_lead}
use Rattle.expr_reader.proofs.expression.Expression.take.Goals as goal

pub returns : goal.returns
returns c = moves_lead _ _ _ _ _ c.in_ok-take_piece.ensures.moves c.in_ok-take_piece.ensures.names refl
