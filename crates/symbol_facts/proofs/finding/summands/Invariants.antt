use Rattle.std.proofs.Common.{◌≡◌, ◌++◌, drop}
use Rattle.poly_terms.specs.Views.{monomials_of}
use Rattle.symbol_facts.specs.Common.{summands}
use Rattle.symbol_facts.proofs.finding.summands.Given as goal

-- the products so far, and those of the coefficients left, are all
abbrev pub invariant-loop-i : goal.invariant-loop-i
invariant-loop-i l = monomials_of l.terms.items ++ summands l.i (drop l.i l.coefs) ≡ summands 0 l.coefs
