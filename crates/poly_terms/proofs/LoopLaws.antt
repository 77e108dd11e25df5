-- A step of a loop over monomials: the remaining ones are the next one and the rest.
use Rattle.std.proofs.Common.{◌≡◌, ℕ, ◌+◌, ◌<◌, length, drop, get_or, List, ◌∷◌, ap, sym, ◌∙◌}
use Rattle.std.proofs.lemmas.List.{drop_more}
use Rattle.poly_terms.specs.declared.poly.Monomial.{Monomial}
use Rattle.poly_terms.specs.Views.{monomial_of, monomials_of}

-- the monomials from i on are the one at i and those after it
pub monomials-from : (ms : List Monomial) (i : ℕ) (m : Monomial) → i < length ms → m ≡ get_or ms i m
    → monomials_of (drop i ms) ≡ monomial_of m ∷ monomials_of (drop (i + 1) ms)
monomials-from ms i m l e =
    ap monomials_of (drop_more ms i m l) ∙ ap (λ (n : Monomial). monomial_of n ∷ monomials_of (drop (i + 1) ms)) (sym e)
