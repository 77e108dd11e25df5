-- The worked values of being below.
use Rattle.std.proofs.Common.{refl}
use Rattle.bound_table.specs.Below.{below}
use Rattle.bound_table.specs.WorkedBelow.{ConstantsAreBelow, SumsAreBelow, MaximumsAreBelow, PowersAreBelow}
use Rattle.bound_table.specs.WorkedBelow.{ProductsAreBelow}

-- the worked values of constants hold
pub constants_below : ConstantsAreBelow
unfolding below
constants_below = record {
  nothing = refl;
  nothing_of_nothing = refl;
  greater = refl;
  less = refl;
  input = refl;
  input_of_nothing = refl;
}

-- the worked values of sums hold
pub sums_below : SumsAreBelow
unfolding below
sums_below = record { more = refl; less = refl; between = refl; other_order = refl; twice = refl; other = refl }

-- the worked values of maximums hold
pub maximums_below : MaximumsAreBelow
unfolding below
maximums_below = record {
  of_both = refl;
  of_one = refl;
  part = refl;
  no_part = refl;
  sum_of_both = refl;
  other_order = refl;
  empty = refl;
  in_empty = refl;
}

-- the worked values of powers hold
pub powers_below : PowersAreBelow
unfolding below
powers_below = record {
  base = refl;
  less_base = refl;
  exponent = refl;
  less_exponent = refl;
  one = refl;
  two = refl;
  left_over = refl;
  input = refl;
}

-- the worked values of products hold
pub products_below : ProductsAreBelow
unfolding below
products_below = record {
  square = refl;
  root = refl;
  with_other = refl;
  doubled = refl;
  halved = refl;
  other_order = refl;
  larger_factor = refl;
  smaller_factor = refl;
  constant_inside = refl;
}
