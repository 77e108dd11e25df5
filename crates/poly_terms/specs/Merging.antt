-- Sums of two ordered polynomials, monomial by monomial from the first one on.
use Rattle.std.specs.Prelude.{[], ◌∷◌}
use Rattle.std.specs.declared.cmp.Ordering.{Ordering}
use Rattle.std.specs.declared.cmp.Ordering.TheVariants.{Less, Greater}
use Rattle.model.specs.Limits.{coefficient_limit}
use Rattle.model.specs.Polynomials.{Polynomial}
use Rattle.poly_terms.specs.Expanding.{order}
use Rattle.poly_terms.specs.Ordered.{IsAscending, IsBounded}

-- the order of the first monomials; an empty polynomial comes last
abbrev pub first_monomial_order : Polynomial → Polynomial → Ordering
first_monomial_order [] q = Greater
first_monomial_order (m ∷ p) [] = Less
first_monomial_order (m ∷ p) (n ∷ q) = order m.vars n.vars

-- both polynomials ascend, and have coefficients of at most 2^63 - 1 in absolute value
pub record CanMerge (p q : Polynomial) : Type 0 where
  pub left_ascending : IsAscending p
  pub right_ascending : IsAscending q
  pub left_bounded : IsBounded coefficient_limit p
  pub right_bounded : IsBounded coefficient_limit q
