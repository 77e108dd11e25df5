-- The structural order of bounds: by kind, in the order constant, input, sum, product, maximum, power; then numbers,
-- lists part by part with a proper prefix first, and the base of a power before its exponent.
use Rattle.std.specs.Prelude.{ℕ}
use Rattle.std.specs.declared.cmp.Ordering.{Ordering}
use Rattle.std.specs.declared.cmp.Ordering.TheVariants.{Less, Equal, Greater}
use Rattle.std.specs.Ordering.{nat_cmp, ordering_then}
use Rattle.bound_expr.specs.model.Bounds.{Bound, Constant, Input, SumOf, ProductOf, MaximumOf, PowerOf, Parts, NoParts}
use Rattle.bound_expr.specs.model.Bounds.{Part}

-- the rank of a kind of bound in the order
abbrev pub kind_rank : Bound → ℕ
kind_rank (Constant c) = 0
kind_rank (Input i) = 1
kind_rank (SumOf ps) = 2
kind_rank (ProductOf ps) = 3
kind_rank (MaximumOf ps) = 4
kind_rank (PowerOf c e) = 5

abbrev mutual
  pub compared : Bound → Bound → Ordering
  compared (Constant c) (Constant d) = nat_cmp c d
  compared (Input i) (Input j) = nat_cmp i j
  compared (SumOf ps) (SumOf qs) = all_compared ps qs
  compared (ProductOf ps) (ProductOf qs) = all_compared ps qs
  compared (MaximumOf ps) (MaximumOf qs) = all_compared ps qs
  compared (PowerOf c e) (PowerOf d f) = ordering_then (nat_cmp c d) (compared e f)
  compared a b = nat_cmp (kind_rank a) (kind_rank b)

  pub all_compared : Parts → Parts → Ordering
  all_compared NoParts NoParts = Equal
  all_compared NoParts (Part q qs) = Less
  all_compared (Part p ps) NoParts = Greater
  all_compared (Part p ps) (Part q qs) = ordering_then (compared p q) (all_compared ps qs)
