use Rattle.std.proofs.Common.{◌≡◌, ◌*◌, ◌-◌, ◌≤◌, length}
use Rattle.poly_terms.specs.Expanding.{all_added}
use Rattle.model.specs.Limits.{coefficient_limit}
use Rattle.poly_terms.specs.Ordered.{IsAscending, IsBounded}
use Rattle.poly_terms.specs.Views.{poly_of, monomials_of}
use Rattle.poly_terms.proofs.sum.sum_by_insertion.Given as goal

-- adding the remaining monomials gives the whole; each monomial that was added increases the bound by the greatest
-- coefficient
abbrev pub invariant-loop-m : goal.invariant-loop-m
invariant-loop-m l = record {
  whole : all_added (monomials_of l.terms.items) (monomials_of l.m-iterator.rest.items) ≡ all_added (poly_of l.fn.p) (poly_of l.fn.q);
  ascending : IsAscending (monomials_of l.terms.items);
  few : length l.m-iterator.rest.items ≤ 64;
  before : IsBounded (coefficient_limit * (65 - length l.m-iterator.rest.items)) (monomials_of l.terms.items);
  left : IsBounded coefficient_limit (monomials_of l.m-iterator.rest.items);
}
