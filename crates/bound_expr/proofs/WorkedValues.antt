-- The worked values of measures, of properties of numbers, and of tidy bounds.
use Rattle.std.proofs.Common.{refl, arith}
use Rattle.bound_expr.specs.Worked.{MeasuresAreWorkedOut, NumbersAreWorkedOut, TidyBoundsAreWorkedOut}
use Rattle.bound_expr.specs.Worked.{SubstitutionIsWorkedOut}

-- the worked values of numbers of nodes and levels hold
pub measures : MeasuresAreWorkedOut
measures = record {
  nodes = refl;
  levels = refl;
  empty = refl;
  small = refl;
  nodes_at_most = refl;
  nodes_beyond = refl;
  levels_at_most = refl;
  levels_beyond = refl;
}

-- the worked values of bases, constants and inputs hold
pub numbers : NumbersAreWorkedOut
numbers = record {
  based = (tt, ((omega arith, tt), tt));
  not_based = λ h. omega (arith, h.1.0.0);
  bases = (tt, ((tt, (tt, (tt, tt))), ((omega arith, tt), tt)));
  lesser_base = λ h. omega (arith, h.1.0);
  constants = (tt, (tt, (omega arith, tt)));
  greater_constant = λ h. omega (arith, h.1);
  numbers = (tt, ((omega arith, omega arith), tt));
  no_numbers = λ h. omega (arith, h.1.1.0.0);
  reads = (tt, ((tt, (tt, (omega arith, tt))), ((tt, omega arith), tt)));
  reads_more = λ h. omega (arith, h.1.1.0.1);
}

-- the worked tidy bounds are tidy, and the others aren't
pub tidy_bounds : TidyBoundsAreWorkedOut
tidy_bounds = record {
  tidy = (
    (omega arith, (tt, (tt, tt))),
    ((((omega arith, (tt, (tt, tt))), (omega arith, (tt, tt))), ((omega arith, tt), tt))),
  );
  one_part_alone = λ h. omega (arith, h.0.0);
  no_part = λ h. omega (arith, h.0.0);
  sum_in_sum = λ h. h.0.1.0;
  product_in_product = λ h. h.0.1.1.0;
  maximum_in_maximum = λ h. h.0.1.0;
  base_of_one = λ h. omega (arith, h.0);
  constant_beyond = λ h. omega (arith, h.1.1.0);
}

-- the worked substitution has the result that was worked out by hand
pub substitution : SubstitutionIsWorkedOut
substitution = record { outcome = refl }
