use Rattle.bound_table.proofs.WorkedLower.{constants_below, sums_below, maximums_below, powers_below, products_below}
use Rattle.bound_table.proofs.worked.lower_bounds_are_as_worked_out.Goals as goal

pub returns : goal.returns
returns c = record {
  constants = constants_below;
  sums = sums_below;
  maximums = maximums_below;
  powers = powers_below;
  products = products_below;
}
