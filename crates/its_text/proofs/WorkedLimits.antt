-- The worked values at the limits.
use Rattle.std.specs.Prelude.{refl}
use Rattle.its_text.specs.WorkedLimits.{LimitsAreWorkedOut}

pub limits_are_worked : LimitsAreWorkedOut
limits_are_worked = record {
  left_full = tt;
  left_passed = refl;
  right_full = tt;
  right_passed = refl;
  variables_full = tt;
  variables_passed = refl;
  atoms_full = tt;
  atoms_passed = refl;
  cost_variables_full = tt;
  cost_variables_passed = refl;
  beside_cost_full = tt;
  beside_cost_passed = refl;
  name_full = tt;
  name_passed = refl;
  tokens_full = refl;
  tokens_passed = refl;
  cost_tokens_full = refl;
  cost_tokens_passed = refl;
  terms_full = tt;
  terms_passed = refl;
  cost_terms_full = tt;
  cost_terms_passed = refl;
  degree_full = tt;
}
