use Rattle.run_replay.proofs.RunsApart.{one_run}
use Rattle.run_replay.proofs.law.texts_are_of_one_run.Goals as goal

pub returns : goal.returns
returns c = one_run
