use Rattle.std.proofs.Common.{◌≡◌, ◌++◌, drop}
use Rattle.poly_terms.specs.Keys.{monomials_at}
use Rattle.poly_terms.specs.Views.{monomials_of}
use Rattle.poly_terms.proofs.packing.packed.Given as goal

-- what has been packed and what is left make up the whole
abbrev pub invariant-loop-m : goal.invariant-loop-m
invariant-loop-m l = monomials_at l.table l.es.items ++ monomials_of (drop l.m-index l.terms) ≡ monomials_of l.terms
