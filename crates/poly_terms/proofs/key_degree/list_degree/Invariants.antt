use Rattle.std.proofs.Common.{◌≤◌, drop, max}
use Rattle.model.specs.Limits.{degree_limit}
use Rattle.model.specs.Polynomials.{degree_of}
use Rattle.poly_terms.specs.Keys.{monomials_at}
use Rattle.poly_terms.proofs.key_degree.list_degree.Given as goal

-- if no monomial so far has more than 8 factors, the degree is the greatest number so far or that of the remaining ones
abbrev pub invariant-loop-e : goal.invariant-loop-e
invariant-loop-e l = l.most ≤ degree_limit
    → degree_of (monomials_at l.table l.es) ≤ max l.most (degree_of (monomials_at l.table (drop l.e-index l.es)))
