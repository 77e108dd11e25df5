use Rattle.affine_turns.proofs.AffineValues.{affine_values_right}
use Rattle.affine_turns.proofs.SeenTurns.{seen_turns_go_on}
use Rattle.affine_turns.proofs.law.seen_turns_go_on.Goals as goal

pub returns : goal.returns
returns c = record { values = affine_values_right; turns = seen_turns_go_on }
