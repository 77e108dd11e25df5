use Rattle.linear_forms.proofs.WeightLaws.{priced-weight, own-weight}
use Rattle.linear_forms.proofs.questions.prices_bound_weights.Goals as goal

pub returns : goal.returns
returns c = record { bounded = priced-weight; own = own-weight }
