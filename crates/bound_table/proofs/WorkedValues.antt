-- The worked values of the cases on powers and of distribution, and of both tables.
use Rattle.std.proofs.Common.{refl}
use Rattle.bound_table.specs.Below.{below}
use Rattle.bound_table.specs.Rewriting.{simplified, passes_until_same, at_node, parts_passed}
use Rattle.bound_table.specs.Worked.{PowersAreEvaluated, PowersAreShifted, PowersAreMerged, ProductsAreMultipliedOut}
use Rattle.bound_table.specs.Worked.{LimitsOfProductsAreMet, TablesAreWorkedOut}

-- the worked values of evaluating powers hold
pub evaluated_powers : PowersAreEvaluated
evaluated_powers =
    record { small = refl; none = refl; nothing = refl; greatest = refl; beyond = refl; other = refl }

-- the worked values of taking constants out of powers hold
pub shifted_powers : PowersAreShifted
shifted_powers =
    record { single = refl; several = refl; nothing_left = refl; beyond = refl; no_constant = refl; no_sum = refl }

-- the worked values of merging powers hold
pub merged_powers : PowersAreMerged
merged_powers = record { two = refl; spliced = refl; runs = refl; apart = refl; in_sum = refl }

-- the worked values of multiplying products out hold
pub multiplied_products : ProductsAreMultipliedOut
multiplied_products =
    record { in_place = refl; first_alone = refl; spliced = refl; single = refl; no_sum = refl; in_sum = refl }

-- the worked limits of multiplied products hold
pub limits_met : LimitsOfProductsAreMet
limits_met = record {
  parts_at_most = refl;
  parts_beyond = refl;
  sums_at_most = refl;
  sums_beyond = refl;
  nodes_at_most = refl;
  nodes_beyond = refl;
}

-- the worked values of both tables hold
pub tables_worked : TablesAreWorkedOut
unfolding simplified passes_until_same at_node parts_passed below
tables_worked = record {
  product_small = refl;
  product_large = refl;
  shift_small = refl;
  shift_large = refl;
  merge_small = refl;
  merge_large = refl;
  number_small = refl;
  number_large = refl;
}
