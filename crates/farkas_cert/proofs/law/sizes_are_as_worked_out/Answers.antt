use Rattle.farkas_cert.proofs.WorkedSizes.{sizes-are-worked-out}
use Rattle.farkas_cert.proofs.law.sizes_are_as_worked_out.Goals as goal

pub returns : goal.returns
returns c = sizes-are-worked-out
