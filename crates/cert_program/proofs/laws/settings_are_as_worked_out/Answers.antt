use Rattle.std.proofs.Common.{refl}
use Rattle.guard_prep.specs.Tightening.{divisor_of}
use Rattle.cert_program.proofs.laws.settings_are_as_worked_out.Goals as goal

pub returns : goal.returns
unfolding divisor_of
returns c = record {
  rows = refl;
  new_values = refl;
  flat = refl;
  no_rows = refl;
  nonlinear_new_values = refl;
  nonlinear = refl;
  past_the_places = refl;
  no_rule_0 = refl;
  no_rule_4 = refl;
  cost_rows = refl;
  cost_value = refl;
  flat_cost = refl;
  no_cost_rows = refl;
  nonlinear_cost_value = refl;
  nonlinear_cost = refl;
  without_cost = refl;
  value_without_cost = refl;
}
