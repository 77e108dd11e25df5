use Rattle.std.proofs.Common.{◌≡◌, drop, max}
use Rattle.model.specs.Polynomials.{degree_of}
use Rattle.poly_terms.specs.Views.{monomials_of}
use Rattle.poly_terms.proofs.limits.degree.Given as goal

-- the greater one of the degree so far and that of the remaining monomials is the degree
abbrev pub invariant-loop-m : goal.invariant-loop-m
invariant-loop-m l = max l.most (degree_of (monomials_of (drop l.m-index l.terms))) ≡ degree_of (monomials_of l.terms)
