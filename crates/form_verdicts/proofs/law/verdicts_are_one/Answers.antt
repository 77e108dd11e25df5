use Rattle.form_verdicts.proofs.OneVerdict.{verdicts_one}
use Rattle.form_verdicts.proofs.law.verdicts_are_one.Goals as goal

pub returns : goal.returns
returns c = verdicts_one c.refused_files_are_not_accepted.ensures
