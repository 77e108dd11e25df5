use Rattle.its_model.specs.Views.{program_of}
use Rattle.lasso_check.proofs.LassoParts.{lassos_lawful}
use Rattle.lasso_check.proofs.reading.judge.Goals as goal

pub read_bytes-requires-clause-lawful : goal.read_bytes-requires-clause-lawful
read_bytes-requires-clause-lawful c = lassos_lawful (program_of c.args.p.now)
