use Rattle.std.proofs.Common.{◌≡◌, ◌+◌, ◌<◌, ◌≤◌, ◌^◌, length, ap, sym, ◌∙◌, arith, subst}
use Rattle.std.specs.Prelude.{ℤ, ◌*ℤ◌, nat_abs}
use Rattle.std.proofs.lemmas.List.{length-map}
use Rattle.std.specs.Int.{w128, cast_signed, cast_unsigned}
use Rattle.std.proofs.lemmas.Int.{to_z-of_z, fits_signed_from_abs}
use Rattle.model.specs.Polynomials as plain
use Rattle.poly_terms.specs.Views.{monomial_of, monomials_of}
use Rattle.model.specs.Limits.{coefficient_limit}
use Rattle.poly_terms.proofs.SumLaws.{times_front, front-all, front-length, bounded-at, left-behind, times-step}
use Rattle.poly_terms.proofs.scale.scaled.Goals as goal

-- casting a small integer doesn't change it
cast_small : (x : ℤ) → nat_abs x ≤ 2 ^ 126 → cast_signed w128 (cast_unsigned w128 x) ≡ x
cast_small x h = to_z-of_z w128 x (fits_signed_from_abs w128 x (omega (arith, h)))

pub index-requires : goal.index-requires
index-requires c =
    let p = monomials_of c.args.p.terms.items in
    let so_far : monomials_of c.loop-i.terms.items ≡ times_front c.args.factor c.loop-i.i p =
    c.loop-i.invariant ∙ ap (λ (z : ℤ). times_front z c.loop-i.i p) (to_z-of_z w128 c.args.factor c.ranges.factor) in
    omega (arith, ap length so_far, front-length c.args.factor p c.loop-i.i, length-map c.args.p.terms.items monomial_of, length-map c.loop-i.terms.items monomial_of, c.args.p.terms.ok.0, c.loop-i.terms.ok.0)

pub set_coefficient-requires : goal.set_coefficient-requires
set_coefficient-requires c =
    let p = monomials_of c.args.p.terms.items in
    let so_far : monomials_of c.loop-i.terms.items ≡ times_front c.args.factor c.loop-i.i p =
    c.loop-i.invariant ∙ ap (λ (z : ℤ). times_front z c.loop-i.i p) (to_z-of_z w128 c.args.factor c.ranges.factor) in
    omega (arith, ap length so_far, front-length c.args.factor p c.loop-i.i, length-map c.args.p.terms.items monomial_of, length-map c.loop-i.terms.items monomial_of, c.args.p.terms.ok.0)

pub narrow_product-coef-requires-clause-left : goal.narrow_product-coef-requires-clause-left
narrow_product-coef-requires-clause-left c =
    let p = monomials_of c.args.p.terms.items in
    let within : c.loop-i.i < length p = omega (arith, length-map c.args.p.terms.items monomial_of, c.args.p.terms.ok.0) in
    let so_far : monomials_of c.loop-i.terms.items ≡ times_front c.args.factor c.loop-i.i p =
    c.loop-i.invariant ∙ ap (λ (z : ℤ). times_front z c.loop-i.i p) (to_z-of_z w128 c.args.factor c.ranges.factor) in
    let here = left-behind c.args.factor p c.loop-i.terms.items c.loop-i.i c.index.result.now so_far within c.index.ensures in
    let small = subst (λ (m : plain.Monomial). nat_abs m.coef ≤ coefficient_limit) here
    (bounded-at coefficient_limit p c.loop-i.i (monomial_of c.index.result.now) c.requires.coefficients within) in
    subst (λ (x : ℤ). nat_abs x ≤ coefficient_limit) (sym (cast_small c.index.result.now.coef (omega (arith, small)))) small

pub loop-i-preserved : goal.loop-i-preserved
loop-i-preserved c =
    let p = monomials_of c.args.p.terms.items in
    let d = monomial_of c.index.result.now in
    let within : c.loop-i.i < length p = omega (arith, length-map c.args.p.terms.items monomial_of, c.args.p.terms.ok.0) in
    let factor = to_z-of_z w128 c.args.factor c.ranges.factor in
    let so_far : monomials_of c.loop-i.terms.items ≡ times_front c.args.factor c.loop-i.i p =
    c.loop-i.invariant ∙ ap (λ (z : ℤ). times_front z c.loop-i.i p) factor in
    let here = left-behind c.args.factor p c.loop-i.terms.items c.loop-i.i c.index.result.now so_far within c.index.ensures in
    let small = subst (λ (m : plain.Monomial). nat_abs m.coef ≤ coefficient_limit) here
    (bounded-at coefficient_limit p c.loop-i.i d c.requires.coefficients within) in
    let cast = cast_small c.index.result.now.coef (omega (arith, small)) ∙ ap (λ (m : plain.Monomial). m.coef) (sym here) in
    c.set_coefficient.ensures d
    ∙ (times-step c.args.factor p (monomials_of c.loop-i.terms.items) c.loop-i.i d _ so_far within
    (cast_small c.narrow_product-coef.result (omega (arith, c.narrow_product-coef.ensures.size)) ∙ (c.narrow_product-coef.ensures.value ∙ (λ j. cast j *ℤ factor j)))
    ∙ sym (ap (λ (z : ℤ). times_front z (c.loop-i.i + 1) p) factor))

pub returns : goal.returns
returns c =
    let p = monomials_of c.args.p.terms.items in
    c.loop-i.invariant
    ∙ (ap (λ (z : ℤ). times_front z c.loop-i.i p) (to_z-of_z w128 c.args.factor c.ranges.factor)
    ∙ front-all c.args.factor p c.loop-i.i (omega (arith, length-map c.args.p.terms.items monomial_of, c.args.p.terms.ok.0)))
