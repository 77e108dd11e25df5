use Rattle.rule_forms.proofs.Rays.{dual-is-ray, dual-ends, unbounded-has-none}
use Rattle.rule_forms.proofs.bounding.duals_are_rays.Goals as goal

pub returns : goal.returns
returns c = record { ray = dual-is-ray; end = dual-ends; none = unbounded-has-none }
