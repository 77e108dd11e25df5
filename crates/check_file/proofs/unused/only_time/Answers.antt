use Rattle.check_file.proofs.SingleFacts.{no-time}
use Rattle.check_file.proofs.unused.only_time.Goals as goal

pub returns-in_default : goal.returns-in_default
returns-in_default c = no-time _ c.in_default.ensures
