use Rattle.std.proofs.Common.{◌≡◌, ◌≢◌, ◌<◌, ◌≤◌, ◌^◌, List, length, get_or, ap, sym, ◌∙◌, arith, subst}
use Rattle.std.specs.Prelude.{ℤ, nat_abs, ◌+ℤ◌, FitsSigned}
use Rattle.std.specs.Int.{w128, cast_signed, cast_unsigned}
use Rattle.std.proofs.lemmas.List.{length-map, get_or_read}
use Rattle.std.proofs.lemmas.Int.{to_z-of_z, fits_signed_from_abs}
use Rattle.poly_terms.specs.declared.poly.Monomial.{Monomial}
use Rattle.poly_terms.specs.Views.{monomial_of, monomials_of}
use Rattle.poly_terms.specs.Positions.{position_in}
use Rattle.poly_terms.proofs.PositionLaws.{position-within, inserts-at, raises-at}
use Rattle.poly_terms.proofs.SumLaws.{bounded-here, sum-size}
use Rattle.poly_terms.proofs.sum.add.Goals as goal

-- a sum of small integers fits in 128 bits
sum_fits : (x y : ℤ) → nat_abs x ≤ 2 ^ 100 → nat_abs y ≤ 2 ^ 100 → FitsSigned w128 (x +ℤ y)
sum_fits x y h k = fits_signed_from_abs w128 (x +ℤ y) (omega (arith, sum-size x y (2 ^ 100) (2 ^ 100) h k))

-- casting integers that fit in 128 bits doesn't change them
cast_sum : (x y : ℤ) → FitsSigned w128 x → FitsSigned w128 y → cast_signed w128 (cast_unsigned w128 x) +ℤ cast_signed w128 (cast_unsigned w128 y) ≡ x +ℤ y
cast_sum x y f g = λ i. to_z-of_z w128 x f i +ℤ to_z-of_z w128 y g i

-- a small integer fits in 128 bits
small_fits : (x : ℤ) → nat_abs x ≤ 2 ^ 100 → FitsSigned w128 x
small_fits x h = fits_signed_from_abs w128 x (omega (arith, h))

pub overflow_add-coef : goal.overflow_add-coef
overflow_add-coef c =
    let here = subst (λ (ts : List Monomial). c.position_of-i.result < length ts) c.deref-2.ensures.value (c.has_variables_at.ensures.yes c.if-has_variables_at.true) in
    let small = bounded-here (2 ^ 100) c.args.terms.now.items c.position_of-i.result c.index.result.now c.requires.before here c.index.ensures in
    subst (FitsSigned w128) (sym (cast_sum c.index.result.now.coef c.args.m.coef (small_fits c.index.result.now.coef small) (small_fits c.args.m.coef c.requires.small))) (sum_fits c.index.result.now.coef c.args.m.coef small c.requires.small)

pub insert-requires : goal.insert-requires
insert-requires c =
    let is = c.position_of-i.ensures ∙ ap (λ (ts : List Monomial). position_in c.args.m.vars.items (monomials_of ts)) c.deref.ensures.value in
    omega (arith, is, position-within c.args.m.vars.items (monomials_of c.args.terms.now.items), length-map c.args.terms.now.items monomial_of, c.args.terms.now.ok.0)

pub returns-then-has_variables_at : goal.returns-then-has_variables_at
returns-then-has_variables_at c =
    let here = subst (λ (ts : List Monomial). c.position_of-i.result < length ts) c.deref-2.ensures.value (c.has_variables_at.ensures.yes c.if-has_variables_at.true) in
    let small = bounded-here (2 ^ 100) c.args.terms.now.items c.position_of-i.result c.index.result.now c.requires.before here c.index.ensures in
    raises-at c.args.m c.args.terms.now.items c.set_coefficient.new.terms.items c.position_of-i.result
    (cast_signed w128 (cast_unsigned w128 (cast_signed w128 (cast_unsigned w128 c.index.result.now.coef) +ℤ cast_signed w128 (cast_unsigned w128 c.args.m.coef))))
    (c.position_of-i.ensures ∙ ap (λ (ts : List Monomial). position_in c.args.m.vars.items (monomials_of ts)) c.deref.ensures.value)
    here
    (subst (λ (ts : List Monomial). (d : Monomial) → (get_or ts c.position_of-i.result d).vars.items ≡ c.args.m.vars.items) c.deref-2.ensures.value
    (c.has_variables_at.ensures.same c.if-has_variables_at.true))
    (ap (λ (z : ℤ). cast_signed w128 (cast_unsigned w128 z)) (cast_sum c.index.result.now.coef c.args.m.coef (small_fits c.index.result.now.coef small) (small_fits c.args.m.coef c.requires.small))
    ∙ (to_z-of_z w128 (c.index.result.now.coef +ℤ c.args.m.coef) (sum_fits c.index.result.now.coef c.args.m.coef small c.requires.small)
    ∙ ap (λ (n : Monomial). n.coef +ℤ c.args.m.coef) (get_or_read c.args.terms.now.items c.position_of-i.result c.index.result.now here c.index.ensures c.args.m)))
    c.set_coefficient.ensures

pub returns-in_ok-insert : goal.returns-in_ok-insert
returns-in_ok-insert c =
    ap monomials_of c.in_ok-insert.ensures.items
    ∙ inserts-at c.args.m c.args.terms.now.items c.position_of-i.result
    (c.position_of-i.ensures ∙ ap (λ (ts : List Monomial). position_in c.args.m.vars.items (monomials_of ts)) c.deref.ensures.value)
    (subst (λ (ts : List Monomial). c.position_of-i.result < length ts → (d : Monomial) → (get_or ts c.position_of-i.result d).vars.items ≢ c.args.m.vars.items)
    c.deref-2.ensures.value (c.has_variables_at.ensures.other c.if-has_variables_at.false))
