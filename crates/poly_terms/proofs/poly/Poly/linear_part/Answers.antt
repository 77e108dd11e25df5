use Rattle.std.proofs.Common.{◌≡◌, ◌<◌, ◌≤◌, ◌+◌, ℕ, List, length, get_or, ap, sym, subst, arith}
use Rattle.std.proofs.lemmas.List.{length-map}
use Rattle.model.specs.Polynomials as plain
use Rattle.poly_terms.specs.declared.poly.Monomial.{Monomial}
use Rattle.poly_terms.specs.AffineForms.{AreVariablesBelow, HasValueOf}
use Rattle.poly_terms.specs.Views.{monomial_of, monomials_of, poly_of, form_of}
use Rattle.poly_terms.proofs.RowLaws.{IsFormOf, form-of-more, form-of-all, degree-of-all, degree-at, below-at}
use Rattle.poly_terms.proofs.RowLaws.{linear_form-value}
use Rattle.poly_terms.proofs.PositionLaws.{at-monomial}
use Rattle.poly_terms.proofs.poly.Poly.linear_part.Goals as goal

-- the monomial at the position is that of the list
here : (ms ns : List Monomial) (i : ℕ) (m : Monomial) → ns ≡ ms → i < length ns → m ≡ get_or ns i m → get_or (monomials_of ms) i (monomial_of m) ≡ monomial_of m
here ms ns i m e l f =
    at-monomial ms i m (monomial_of m) (subst (λ (ks : List Monomial). i < length ks) e l) (subst (λ (ks : List Monomial). m ≡ get_or ks i m) e f)

within : (ms ns : List Monomial) (i : ℕ) → ns ≡ ms → i < length ns → i < length (monomials_of ms)
within ms ns i e l = omega (arith, l, ap length e, length-map ms monomial_of)

pub returns-then-len-gt1-clause-row : goal.returns-then-len-gt1-clause-row
returns-then-len-gt1-clause-row c =
    let ms = c.args.self.now.terms.items in
    let e = here ms c.deref-m-items.result.now c.loop-m.m-index c.m-item.result c.deref-m-items.ensures.value c.loop-m-test.true c.m-item.is in
    let l = within ms c.deref-m-items.result.now c.loop-m.m-index c.deref-m-items.ensures.value c.loop-m-test.true in
    omega (arith, degree-at (monomials_of ms) c.loop-m.m-index (monomial_of c.m-item.result) l, ap (λ (m : plain.Monomial). length m.vars) e, c.if-len-gt1.true, c.len.ensures, c.m-item.result.vars.ok.0)

pub put-requires-clause-in_range : goal.put-requires-clause-in_range
put-requires-clause-in_range c =
    let ms = c.args.self.now.terms.items in
    let e = here ms c.deref-m-items.result.now c.loop-m.m-index c.m-item.result c.deref-m-items.ensures.value c.loop-m-test.true c.m-item.is in
    let l = within ms c.deref-m-items.result.now c.loop-m.m-index c.deref-m-items.ensures.value c.loop-m-test.true in
    subst (λ (w : ℕ). AreVariablesBelow w c.m-item.result.vars.items) (sym c.loop-m.invariant.width)
    (subst (λ (m : plain.Monomial). AreVariablesBelow c.args.width m.vars) e (below-at c.args.width (monomials_of ms) c.loop-m.m-index (monomial_of c.m-item.result) c.requires.in_range l))

pub loop-m-preserved : goal.loop-m-preserved
loop-m-preserved c =
    let ms = c.args.self.now.terms.items in
    let e = here ms c.deref-m-items.result.now c.loop-m.m-index c.m-item.result c.deref-m-items.ensures.value c.loop-m-test.true c.m-item.is in
    let l = within ms c.deref-m-items.result.now c.loop-m.m-index c.deref-m-items.ensures.value c.loop-m-test.true in
    subst (IsFormOf c.args.width (monomials_of ms) (c.loop-m.m-index + 1)) (sym c.put.ensures)
    (form-of-more c.args.width (monomials_of ms) c.loop-m.m-index (monomial_of c.m-item.result) (form_of c.loop-m.row) c.requires.ordered c.requires.in_range l e
    (omega (arith, c.if-len-gt1.false, c.len.ensures, c.m-item.result.vars.ok.0)) c.loop-m.invariant)

-- all monomials have been processed
done : (ms ns : List Monomial) (i : ℕ) → ns ≡ ms → length ns ≤ i → length (monomials_of ms) ≤ i
done ms ns i e l = omega (arith, l, ap length e, length-map ms monomial_of)

pub returns-clause-row : goal.returns-clause-row
returns-clause-row c =
    let p = poly_of c.args.self.now in
    let all = done c.args.self.now.terms.items c.deref-m-items.result.now c.loop-m.m-index c.deref-m-items.ensures.value c.loop-m-test.false in
    (degree-of-all c.args.width p c.loop-m.m-index (form_of c.loop-m.row) all c.loop-m.invariant, form-of-all c.args.width p c.loop-m.m-index (form_of c.loop-m.row) all c.loop-m.invariant)

pub returns-clause-value : goal.returns-clause-value
returns-clause-value c =
    let p = poly_of c.args.self.now in
    let all = done c.args.self.now.terms.items c.deref-m-items.result.now c.loop-m.m-index c.deref-m-items.ensures.value c.loop-m-test.false in
    subst (HasValueOf p) (sym (form-of-all c.args.width p c.loop-m.m-index (form_of c.loop-m.row) all c.loop-m.invariant))
    (linear_form-value c.args.width p c.requires.in_range (degree-of-all c.args.width p c.loop-m.m-index (form_of c.loop-m.row) all c.loop-m.invariant))
