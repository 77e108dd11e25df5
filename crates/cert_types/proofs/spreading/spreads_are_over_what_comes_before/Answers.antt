use Rattle.std.proofs.Common.{refl}
use Rattle.cert_types.proofs.spreading.spreads_are_over_what_comes_before.Goals as goal

pub returns : goal.returns
returns c = record { each = λ s m size. refl }
