use Rattle.rule_forms.proofs.Solutions.{solution-shows, form-of_kind, implied-above}
use Rattle.rule_forms.proofs.bounding.solutions_are_bounds.Goals as goal

pub returns : goal.returns
returns c = record { shown = solution-shows; of_kind = form-of_kind; above = implied-above }
