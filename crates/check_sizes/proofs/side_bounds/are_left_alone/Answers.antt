use Rattle.std.proofs.Common.{◌<◌, ℕ, map, refl, sym, subst, arith}
use Rattle.std.specs.List.{All}
use Rattle.std.proofs.lemmas.List.Elements.{All-push, recursion_from_All}
use Rattle.model.specs.Polynomials.{Monomial}
use Rattle.poly_terms.specs.Views.{monomial_of}
use Rattle.cert_context.proofs.Cuts.{done-more, done-all, each-at}
use Rattle.check_sizes.proofs.side_bounds.are_left_alone.Goals as goal

pub returns-then-not-fits : goal.returns-then-not-fits
returns-then-not-fits c =
    let P = λ (m : Monomial). All (λ (v : ℕ). v < c.args.left) m.vars in (
      λ e. absurd (let no : ⊥ = cc in no),
      λ h. absurd (let f = c.are_below-fits.ensures.1 (subst (All (λ (v : ℕ). v < c.args.left)) (sym c.deref.ensures.value)
          (each-at monomial_of P c.args.monomials.now c.loop-monomial.monomial-index c.monomial-item.result
          c.loop-monomial-test.true c.monomial-item.is (recursion_from_All P (map monomial_of c.args.monomials.now) h))) in
          let no : ⊥ = cc in no),
    )

pub loop-monomial-preserved : goal.loop-monomial-preserved
loop-monomial-preserved c =
    let P = λ (m : Monomial). All (λ (v : ℕ). v < c.args.left) m.vars in
    subst (All P)
    (sym (done-more monomial_of c.args.monomials.now c.loop-monomial.monomial-index c.monomial-item.result
    c.loop-monomial-test.true c.monomial-item.is))
    (All-push P _ (monomial_of c.monomial-item.result) c.loop-monomial.invariant
    (subst (All (λ (v : ℕ). v < c.args.left)) c.deref.ensures.value (c.are_below-fits.ensures.0 c.if-not-fits.false)))

pub returns : goal.returns
returns c =
    let P = λ (m : Monomial). All (λ (v : ℕ). v < c.args.left) m.vars in (
      λ e. subst (All P)
          (done-all monomial_of c.args.monomials.now c.loop-monomial.monomial-index (omega (arith, c.loop-monomial-test.false)))
          c.loop-monomial.invariant,
      λ h. refl,
    )
