-- The worked values hold, each by computing.
use Rattle.std.proofs.Common.{refl}
use Rattle.signed_bounds.specs.Worked.{BoundsHaveTheirValues, InputsAreAbsoluteValues, MeasuresAreWorkedOut, SquaresAreFound}
use Rattle.signed_bounds.specs.Worked.{ProductsAreMultipliedOut, ConstantPartsAreNumbers, SumsAreCompared}
use Rattle.signed_bounds.specs.Worked.{QuotientsAreCompared, ShapesAreCompared, LimitsOfComparisons}

-- the worked values of bounds hold
pub values : BoundsHaveTheirValues
values = record {
  above = refl;
  below = refl;
  unread = refl;
  polynomial = refl;
  half = refl;
  even_half = refl;
  by_zero = refl;
  root_of_15 = refl;
  root_of_16 = refl;
  root_of_17 = refl;
  root_of_0 = refl;
  minimum = refl;
  first_minimum = refl;
  minimum_of_one = refl;
  maximum = refl;
  product = refl;
  power = refl;
  power_of_0 = refl;
  empty_sum = refl;
  empty_product = refl;
  empty_maximum = refl;
}

-- the worked values of absolute values hold
pub inputs : InputsAreAbsoluteValues
inputs = record {
  negative_first = refl;
  negative_second = refl;
}

-- the worked measures hold
pub measures : MeasuresAreWorkedOut
measures = record {
  polynomial = refl;
  polynomial_levels = refl;
  nodes = refl;
  levels = refl;
  deeper_part = refl;
  nodes_at_most = refl;
  nodes_beyond = refl;
  levels_at_most = refl;
  levels_beyond = refl;
  largest = refl;
  large_constant = refl;
  large_divisor = refl;
  large = refl;
}

-- the worked values of sums of squares hold
pub squares : SquaresAreFound
squares = record {
  nothing = refl;
  constant = refl;
  square = refl;
  cancelled = refl;
  negative = refl;
  variable = refl;
  mixed = refl;
  opposite_square = refl;
  cube = refl;
  high_degree = refl;
}

-- the worked values of multiplying out hold
pub products : ProductsAreMultipliedOut
products = record {
  outcome = refl;
  most_products = refl;
  more_products = refl;
  most_nodes = refl;
  more_nodes = refl;
  largest = refl;
  too_large = refl;
  times_zero = refl;
  twice = refl;
}

-- the worked values of positive parts of constants hold
pub constant_parts : ConstantPartsAreNumbers
constant_parts = record {
  three = refl;
  negative = refl;
  empty = refl;
  sum = refl;
  variable = refl;
  one = refl;
  by_one = refl;
  two_ones = refl;
  zero_in_zero = refl;
  two_in_one = refl;
  largest = refl;
  twice_large = refl;
  in_polynomial = refl;
  above_polynomial = refl;
  polynomial = refl;
  above = refl;
}

-- the worked comparisons of sums hold
pub sums : SumsAreCompared
sums = record {
  order = refl;
  one_less = refl;
  other = refl;
  added = refl;
  parted = refl;
  one_more = refl;
  multiplied = refl;
  multiplied_less = refl;
  factor_left = refl;
  greater = refl;
  lesser = refl;
  whole = refl;
  in_parts = refl;
  not_whole = refl;
  used_once = refl;
  used_whole = refl;
  largest = refl;
  past_limit = refl;
  past_limit_itself = refl;
}

-- the worked comparisons of quotients hold
pub quotients : QuotientsAreCompared
quotients = record {
  five = refl;
  five_less = refl;
  six = refl;
  six_less = refl;
  taken_out = refl;
  left_out = refl;
  divided = refl;
  not_divided = refl;
  itself = refl;
  other_divisor = refl;
  with_other_divisor = refl;
  rounded_twice = refl;
  second_quotient = refl;
}

-- the worked comparisons by shape hold
pub shapes : ShapesAreCompared
shapes = record {
  part = refl;
  not_part = refl;
  number_in_maximum = refl;
  number_above = refl;
  minimum = refl;
  not_minimum = refl;
  root = refl;
  not_root = refl;
  power = refl;
  lesser_base = refl;
  base_0 = refl;
  root_of_sum = refl;
  root_of_other_order = refl;
  root_of_product = refl;
  not_root_of_product = refl;
  maximum = refl;
  not_maximum = refl;
  root_of_quotient = refl;
  root_of_other_quotient = refl;
  fewer_parts = refl;
  more_parts = refl;
}

-- the worked limits of comparisons hold
pub limits : LimitsOfComparisons
limits = record {
  size = refl;
  largest = refl;
  larger = refl;
  too_large = refl;
  heavy_in_limits = refl;
  heavy_multiplied = refl;
  heavy_size = refl;
  heavy_refused = refl;
  heavy_fits = refl;
  wide_in_limits = refl;
  wide_products = refl;
  wide_refused = refl;
  sixteen = refl;
  seventeen = refl;
}
