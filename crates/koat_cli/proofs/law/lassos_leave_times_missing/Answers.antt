use Rattle.koat_cli.proofs.LassoLaws.{times_missing}
use Rattle.koat_cli.proofs.law.lassos_leave_times_missing.Goals as goal

pub returns : goal.returns
returns c = times_missing c.endless_turns_have_no_time.ensures
