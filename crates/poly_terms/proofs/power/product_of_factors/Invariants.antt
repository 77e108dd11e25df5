use Rattle.std.proofs.Common.{◌≡◌, None}
use Rattle.poly_terms.specs.Expanding.{power_of}
use Rattle.poly_terms.specs.Powers.{faults_of_powers}
use Rattle.poly_terms.specs.Views.{poly_of}
use Rattle.poly_terms.proofs.power.product_of_factors.Given as goal

-- the list is the power so far, and no power up to it has a fault
abbrev pub invariant-loop-k : goal.invariant-loop-k
invariant-loop-k l = record {
  power : poly_of l.so_far ≡ power_of (poly_of l.p) l.k;
  none : faults_of_powers (poly_of l.p) l.k ≡ None;
}
