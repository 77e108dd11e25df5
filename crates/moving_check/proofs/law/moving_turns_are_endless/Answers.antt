use Rattle.moving_check.proofs.MovingTurns.{moving_endless}
use Rattle.moving_check.proofs.law.moving_turns_are_endless.Goals as goal

pub returns : goal.returns
returns c =
    moving_endless c.seen_turns_go_on.ensures.turns c.lassos_are_endless.ensures.endless c.lassos_are_endless.ensures.no_time
