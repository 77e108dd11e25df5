use Rattle.std.proofs.Common.{◌≡◌}
use Rattle.poly_terms.specs.Views.{monomials_of}
use Rattle.poly_terms.proofs.SumLaws.{times_front}
use Rattle.poly_terms.proofs.scale.scaled.Given as goal

-- the monomials before i are multiplied
abbrev pub invariant-loop-i : goal.invariant-loop-i
invariant-loop-i l = monomials_of l.terms.items ≡ times_front l.fn.factor l.i (monomials_of l.fn.p.terms.items)
