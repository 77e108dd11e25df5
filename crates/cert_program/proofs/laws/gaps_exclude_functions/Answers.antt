use Rattle.cert_program.proofs.RankedSets.{gap-excludes_all}
use Rattle.cert_program.proofs.laws.gaps_exclude_functions.Goals as goal

pub returns : goal.returns
returns c = record { each = gap-excludes_all }
