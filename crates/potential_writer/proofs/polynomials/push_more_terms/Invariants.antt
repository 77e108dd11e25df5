use Rattle.std.proofs.Common.{◌≡◌, ◌++◌, map, drop, codes}
use Rattle.poly_terms.specs.Views.{monomials_of}
use Rattle.section_writer.specs.Lists.{each_behind}
use Rattle.potential_writer.specs.Parts.{term_text}
use Rattle.potential_writer.proofs.polynomials.push_more_terms.Given as goal

-- the text so far and that of the remaining monomials are the whole text
abbrev pub invariant-loop-term : goal.invariant-loop-term
invariant-loop-term l =
    l.text.items ++ each_behind (codes "; ") (map term_text (monomials_of (drop l.term-index l.terms)))
    ≡ l.initial.text.items ++ each_behind (codes "; ") (map term_text (monomials_of l.terms))
