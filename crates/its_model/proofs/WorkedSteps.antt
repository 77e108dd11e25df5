-- The worked values of the faults of steps.
use Rattle.std.proofs.Common.{refl}
use Rattle.its_model.specs.WorkedSteps.{RelationsHold, RulesAreFound, FreeValuesAreTaken, FaultsComeInOrder}
use Rattle.its_model.specs.WorkedSteps.{ValuesPassRange, AritiesAreWorkedOut, StepsAreWorkedOut}

relations : RelationsHold
relations = record {
  at_least = refl;
  more_than = refl;
  at_most = refl;
  less_than = refl;
  equal_to = refl;
  above_below_zero = refl;
  less_than_zero = refl;
}

rules : RulesAreFound
rules = record {
  taken = refl;
  no_such_rule = refl;
  rule_0 = refl;
  other_symbol = refl;
  before_guard = refl;
  free_value = refl;
  free_before_guard = refl;
}

free : FreeValuesAreTaken
free = record {
  less = refl;
  same = refl;
  past = refl;
  missing = refl;
  too_many = refl;
}

order : FaultsComeInOrder
order = record {
  guard_first = refl;
  then_updates = refl;
  last_update = refl;
  no_update = refl;
  first_atom = refl;
  second_atom = refl;
  both_atoms = refl;
  third_atom = refl;
  fails_first = refl;
  past_first = refl;
  left_side = refl;
  left_side_holds = refl;
  right_side = refl;
  right_side_holds = refl;
}

range : ValuesPassRange
range = record {
  ends = refl;
  above = refl;
  below = refl;
  opposite_of_minimum = refl;
  opposite_of_maximum = refl;
  on_the_way = refl;
  times_zero = refl;
  fits = record { guard = ((refl, refl), tt); updates = (refl, tt) };
  not_in_update = λ h. let e = h.updates.0 in cc;
  not_in_guard = λ h. let e = h.guard.0.0 in cc;
}

arities : AritiesAreWorkedOut
arities = record {
  two = refl;
  later = refl;
  none_at_all = refl;
}

pub steps-are-worked-out : StepsAreWorkedOut
steps-are-worked-out = record { relations = relations; rules = rules; free = free; order = order; range = range; arities = arities }
