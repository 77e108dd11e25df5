use Rattle.std.proofs.Common.{◌≡◌, ◌*◌, ◌^◌, [], drop}
use Rattle.poly_terms.specs.Expanding.{all_added}
use Rattle.poly_terms.specs.Ordered.{IsAscending, IsBounded}
use Rattle.poly_terms.specs.Keys.{monomials_at}
use Rattle.poly_terms.specs.Views.{monomials_of}
use Rattle.poly_terms.proofs.packing.unpacked_sum.Given as goal

-- adding the remaining monomials gives the whole; each monomial that was added increases the bound by 2^63
abbrev pub invariant-loop-e : goal.invariant-loop-e
invariant-loop-e l = record {
  whole : all_added (monomials_of l.terms.items) (monomials_at l.table (drop l.e-index l.es)) ≡ all_added [] (monomials_at l.table l.es);
  ascending : IsAscending (monomials_of l.terms.items);
  before : IsBounded (2 ^ 63 * l.e-index) (monomials_of l.terms.items);
}
