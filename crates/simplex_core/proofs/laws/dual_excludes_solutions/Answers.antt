use Rattle.simplex_core.proofs.Certificates.{dual-excludes}
use Rattle.simplex_core.proofs.laws.dual_excludes_solutions.Goals as goal

pub returns : goal.returns
returns c = record { each = dual-excludes }
