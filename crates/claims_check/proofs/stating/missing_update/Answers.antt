use Rattle.std.proofs.Common.{Option, ap}
use Rattle.model.specs.Programs as plain
use Rattle.program_claims.specs.Acceptance.{no_update}
use Rattle.claims_check.proofs.stating.missing_update.Goals as goal

pub returns-in-None : goal.returns-in-None
returns-in-None c = ap (λ (o : Option plain.Rule). no_update o) c.in-None.ensures

pub returns-in-Some : goal.returns-in-Some
returns-in-Some c = ap (λ (o : Option plain.Rule). no_update o) c.in-Some.ensures
