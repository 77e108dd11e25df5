use Rattle.std.proofs.Common.{◌≡◌, ◌++◌, map, drop}
use Rattle.text_core.specs.Names.{name_of}
use Rattle.poly_terms.specs.Views.{monomials_of}
use Rattle.signed_text.specs.Passes.{signed_monomials, with_rank, is_first_after}
use Rattle.signed_text.proofs.polynomials.write_ranked.Given as goal

-- what is written, followed by the text of the monomials of the rank left, is the whole
abbrev pub invariant-loop-monomial : goal.invariant-loop-monomial
invariant-loop-monomial l = record {
  text : l.text.items
      ++ signed_monomials (map name_of l.names) l.is_first
      (with_rank l.rank (monomials_of (drop l.monomial-index l.monomials)))
      ≡ l.initial.text.items ++ signed_monomials (map name_of l.names) l.first
      (with_rank l.rank (monomials_of l.monomials));
  first : is_first_after l.is_first (with_rank l.rank (monomials_of (drop l.monomial-index l.monomials)))
      ≡ is_first_after l.first (with_rank l.rank (monomials_of l.monomials));
}
