use Rattle.std.proofs.Common.{ap, sym, ◌∙◌, Option, ℕ}
use Rattle.poly_terms.specs.model.Entries.{is_left_by}
use Rattle.cert_types.proofs.NumberSets.{left_by_none}
use Rattle.cert_types.proofs.entering.is_left.Goals as goal

pub returns-in-None : goal.returns-in-None
returns-in-None c = λ p set h. sym (ap (λ (o : Option ℕ). is_left_by p set o) c.in-None.is ∙ left_by_none p set)
