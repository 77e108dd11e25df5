use Rattle.cert_types.proofs.cert_program.RankedSets.{gap-excludes_all}
use Rattle.gap_checks.proofs.gap_faults.gaps_exclude_functions.Goals as goal

pub returns : goal.returns
returns c = record { each = gap-excludes_all }
