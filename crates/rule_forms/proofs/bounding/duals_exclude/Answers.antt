use Rattle.rule_forms.proofs.Exclusion.{dual-excludes}
use Rattle.rule_forms.proofs.bounding.duals_exclude.Goals as goal

pub returns : goal.returns
returns c = record { each = dual-excludes }
