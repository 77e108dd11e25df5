use Rattle.int_laws.proofs.Duality.{weak_duality}
use Rattle.int_laws.proofs.weak_duality_holds.Goals as goal

pub returns : goal.returns
returns c = record { each = weak_duality }
