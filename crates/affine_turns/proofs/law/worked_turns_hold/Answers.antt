use Rattle.affine_turns.proofs.WorkedTurns.{expressions_seen, relations_kept, turns_seen}
use Rattle.affine_turns.proofs.law.worked_turns_hold.Goals as goal

pub returns : goal.returns
returns c = record { expressions = expressions_seen; relations = relations_kept; turns = turns_seen }
