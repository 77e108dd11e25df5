use Rattle.std.proofs.Common.{◌∙◌}
use Rattle.bound_derivations.proofs.Cites.{by_derivations}
use Rattle.bound_derivations.proofs.citing.lemmas.Goals as goal

pub returns : goal.returns
returns c = λ p derived. c.in_ok-lemmas.ensures ∙ by_derivations p c.args.table.now c.args.derivations.items derived
