use Rattle.its_model.specs.Views.{program_of}
use Rattle.run_replay.proofs.RunParts.{runs_lawful}
use Rattle.run_replay.proofs.reading.judge.Goals as goal

pub read_bytes-requires-clause-lawful : goal.read_bytes-requires-clause-lawful
read_bytes-requires-clause-lawful c = runs_lawful (program_of c.args.p.now)
