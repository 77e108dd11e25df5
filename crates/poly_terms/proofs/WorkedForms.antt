-- The worked values of expanded forms, first faults, rows and values hold.
use Rattle.std.proofs.Common.{refl, arith}
use Rattle.poly_terms.specs.WorkedForms.{FormsAreExpanded, OrderIsKept, LimitsAreKept, FaultsComeInOrder, RowsAndValues}
use Rattle.poly_terms.specs.WorkedForms.{FormsAreWorkedOut}

forms : FormsAreExpanded
forms = record {
  squares = refl;
  binomial = refl;
  prefixes = refl;
  sorted = refl;
  cancelled = refl;
  no_power = refl;
  nothing = refl;
  negated = refl;
}

ordered : OrderIsKept
ordered = record {
  ordered = record {
    ascending = ((refl, (refl, (refl, tt))), ((refl, (refl, tt)), ((refl, tt), (tt, tt))));
    factors = (tt, ((tt, tt), (((omega arith, tt), (tt, tt)), ((tt, tt), tt))));
    nonzero = (λ e. cc, (λ e. cc, (λ e. cc, (λ e. cc, tt))));
  };
  empty = record { ascending = tt; factors = tt; nonzero = tt };
  prefix_last = λ h. let e = h.ascending.0.0 in cc;
  twice = λ h. let e = h.ascending.0.0 in cc;
  factors = λ h. absurd (let l = h.factors.0.0.0 in omega (arith, l));
  zero_kept = λ h. h.nonzero.0 refl;
}

limits : LimitsAreKept
limits = record {
  largest = refl;
  too_large = refl;
  smallest = refl;
  too_small = refl;
  sum = refl;
  product_of_literals = refl;
  cancelled = refl;
  most_terms = refl;
  many_terms = refl;
  eighth = refl;
  ninth = refl;
  product = refl;
  power_of_one = refl;
}

faults : FaultsComeInOrder
faults = record {
  listed = refl;
  times_zero = refl;
  power_of_two = refl;
  power_of_200 = refl;
  lower_power = refl;
  base_first = refl;
  literal_base = refl;
  child_first = refl;
  left_first = refl;
  right_last = refl;
  lesser = refl;
}

rows : RowsAndValues
rows = record {
  row = refl;
  maximum_value = refl;
  past_it = refl;
  minimum_value = refl;
  below_it = refl;
  opposite = refl;
  times_zero = refl;
  on_the_way = refl;
  negative_sum = refl;
  power = refl;
  negative_power = refl;
  no_power = refl;
  small = refl;
  reads = (omega arith, omega arith);
  reads_more = λ h. absurd (let l = h.1 in omega (arith, l));
}

pub forms-are-worked-out : FormsAreWorkedOut
forms-are-worked-out = record { forms = forms; ordered = ordered; limits = limits; faults = faults; rows = rows }
