use Rattle.std.proofs.Common.{◌≡◌, drop}
use Rattle.poly_terms.specs.Faults.{has_large}
use Rattle.poly_terms.specs.Views.{monomials_of}
use Rattle.poly_terms.proofs.limits.has_large_coefficient.Given as goal

-- The remaining elements decide the answer.
abbrev pub invariant-loop-m : goal.invariant-loop-m
invariant-loop-m l = has_large (monomials_of (drop l.m-index l.terms)) ≡ has_large (monomials_of l.terms)
