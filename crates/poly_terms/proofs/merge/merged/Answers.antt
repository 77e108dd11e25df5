use Rattle.std.proofs.Common.{◌≡◌, ◌++◌, [], ◌∷◌, refl, ap, sym, ◌∙◌}
use Rattle.model.specs.Polynomials.{Polynomial}
use Rattle.poly_terms.specs.Expanding.{all_added, without_zeros}
use Rattle.poly_terms.specs.Views.{monomial_of, monomials_of}
use Rattle.poly_terms.proofs.CollectLaws.{taken-more}
use Rattle.poly_terms.proofs.merge.merged.Goals as goal

pub loop-m-preserved : goal.loop-m-preserved
loop-m-preserved c =
    let terms = monomials_of c.loop-m.terms.items in
    let m = monomial_of c.in-Some.m in
    let rest = all_added (monomials_of c.next_term.new.left.items) (monomials_of c.next_term.new.right.items) in
    record {
      whole = ap (λ (us : Polynomial). us ++ without_zeros rest) c.in_ok-push_if_nonzero.ensures
          ∙ (taken-more terms m rest ∙ (ap (λ (us : Polynomial). terms ++ without_zeros us) (sym c.in-Some.ensures.first) ∙ c.loop-m.invariant.whole));
      ready = c.in-Some.ensures.ready;
    }

pub returns : goal.returns
returns c =
    let terms = monomials_of c.loop-m.terms.items in
    nothing terms ∙ (ap (λ (us : Polynomial). terms ++ without_zeros us) (sym c.in_default.ensures.first) ∙ c.loop-m.invariant.whole)
  where
    nothing : (p : Polynomial) → p ≡ p ++ []
    nothing [] = refl
    nothing (m ∷ p) = ap (λ (q : Polynomial). m ∷ q) (nothing p)
