use Rattle.int_laws.proofs.Identities.{identity}
use Rattle.int_laws.proofs.polynomial_identities_hold.Goals as goal

pub returns : goal.returns
returns c = record { each = identity }
