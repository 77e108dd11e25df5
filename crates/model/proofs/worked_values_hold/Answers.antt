use Rattle.std.proofs.Common.{refl}
use Rattle.model.proofs.WorkedValues.{relations, steps_lead, places_and_rules}
use Rattle.model.proofs.worked_values_hold.Goals as goal

pub returns : goal.returns
returns c = record {
  expressions = record { less_one = refl; minus_square = refl; odd_power = refl; no_power = refl; second_variable = refl; sum = refl };
  bounds = record { polynomial = refl; exponential = refl; maximum = refl; empty_sum = refl; empty_product = refl; empty_maximum = refl; no_power = refl };
  relations = relations;
  leading = steps_lead;
  numbering = places_and_rules;
  steps = record { first = refl; second = refl; third = refl; entry = refl; last = refl; none = refl; sizes = refl };
}
