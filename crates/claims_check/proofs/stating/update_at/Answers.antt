use Rattle.std.proofs.Common.{◌∙◌, Option, ap}
use Rattle.model.specs.Programs as plain
use Rattle.program_claims.specs.Copies.{update_at}
use Rattle.claims_check.proofs.stating.update_at.Goals as goal

pub returns-in-None : goal.returns-in-None
returns-in-None c = ap (λ (o : Option plain.Rule). update_at o c.args.place) c.in-None.ensures

pub returns-in-Some : goal.returns-in-Some
returns-in-Some c = c.update_of.ensures ∙ ap (λ (o : Option plain.Rule). update_at o c.args.place) c.in-Some.ensures
