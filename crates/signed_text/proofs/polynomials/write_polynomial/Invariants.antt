use Rattle.std.proofs.Common.{◌≡◌, ◌++◌, map, true}
use Rattle.text_core.specs.Names.{name_of}
use Rattle.poly_terms.specs.Views.{monomials_of}
use Rattle.signed_text.specs.Passes.{signed_monomials, is_first_after, in_ranks}
use Rattle.signed_text.proofs.polynomials.write_polynomial.Given as goal

-- the monomials of the ranks so far are written
abbrev pub invariant-loop-rank : goal.invariant-loop-rank
invariant-loop-rank l = record {
  text : l.text.items
      ≡ l.initial.text.items ++ signed_monomials (map name_of l.names) true
      (in_ranks l.rank (monomials_of l.monomials));
  first : l.is_first ≡ is_first_after true (in_ranks l.rank (monomials_of l.monomials));
}
