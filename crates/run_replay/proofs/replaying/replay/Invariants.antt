use Rattle.its_model.specs.Views.{program_of}
use Rattle.run_replay.specs.ReplayAnswers.{ReplayIsAfter}
use Rattle.run_replay.specs.Views.{run_of}
use Rattle.run_replay.proofs.replaying.replay.Given as goal

-- the replay has taken the steps so far
abbrev pub invariant-loop-i : goal.invariant-loop-i
invariant-loop-i l = ReplayIsAfter (program_of l.p) (run_of l.run) l.i l.standing
