use Rattle.linear_forms.proofs.WeightLaws.{least-sizes, least-heights}
use Rattle.linear_forms.proofs.questions.least_weighs_least.Goals as goal

pub returns : goal.returns
returns c = record { sizes = least-sizes; heights = least-heights }
