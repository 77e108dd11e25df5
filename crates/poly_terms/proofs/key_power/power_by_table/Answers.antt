use Rattle.std.proofs.Common.{◌≡◌, ◌*◌, ◌≤◌, ℕ, List, [], ap, sym, subst, ◌∙◌, arith, mul_comm}
use Rattle.std.proofs.lemmas.Result.{IfOk-weaker}
use Rattle.model.specs.Limits.{degree_limit}
use Rattle.model.specs.Polynomials.{degree_of}
use Rattle.poly_terms.specs.declared.keyed.Keyed.{Keyed}
use Rattle.poly_terms.specs.Expanding.{sum_of}
use Rattle.poly_terms.specs.Powers.{IsPowerWithout}
use Rattle.poly_terms.specs.Keys.{monomials_at, IsPowerAt}
use Rattle.poly_terms.specs.Views.{monomials_of, poly_of}
use Rattle.poly_terms.proofs.UnpackingLaws.{power-without}
use Rattle.poly_terms.proofs.key_power.power_by_table.Goals as goal

pub returns : goal.returns
returns c =
    let p = monomials_of c.args.p.now in
    let n = c.args.exponent in
    let table = c.in_ok-table.table.items in
    let factor = c.in_ok-factor.factor.items in
    let whole = c.in_ok-whole.whole.items in
    let factor-is : monomials_at table factor ≡ p = (λ i. monomials_at (sym c.deref.ensures.value i) factor) ∙ c.in_ok-factor.ensures in
    let power : IsPowerAt table factor n whole =
    subst (λ (vs : List ℕ). IsPowerAt vs factor n whole) c.deref-2.ensures.value
    (subst (λ (fs : List Keyed). IsPowerAt c.deref-2.result.now fs n whole) c.deref-3.ensures.value c.in_ok-whole.ensures) in
    let degree : n * degree_of p ≤ degree_limit = omega (arith, c.if-saturating_mul.false, c.saturating_mul.ensures, mul_comm n (degree_of p), ap (λ (d : ℕ). d * n) c.degree.ensures) in
    let positive : 1 ≤ n = omega (arith, c.if-exponent-lt2.false) in
    let low : n ≤ degree_limit = omega (arith, c.if-exponent-gt-DEGREE_LIMIT.false) in
    IfOk-weaker c.unpacked_sum.result
    (λ r. poly_of r ≡ sum_of [] (monomials_at c.deref-4.result.now c.deref-5.result.now))
    (λ r. IsPowerWithout p n (poly_of r))
    (λ r e. power-without table factor n whole p (poly_of r) c.in_ok-table.ensures factor-is degree positive low power
    (e ∙ (λ i. sum_of [] (monomials_at (c.deref-4.ensures.value i) (c.deref-5.ensures.value i)))))
    c.unpacked_sum.ensures
