use Rattle.rule_forms.proofs.Weights.{least-is-least}
use Rattle.rule_forms.proofs.bounding.least_are_least.Goals as goal

pub returns : goal.returns
returns c = record { each = least-is-least }
