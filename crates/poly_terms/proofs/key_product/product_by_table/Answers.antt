use Rattle.std.proofs.Common.{◌≡◌, ◌+◌, ◌≤◌, List, [], sym, subst, ◌∙◌, arith}
use Rattle.std.proofs.lemmas.Result.{IfOk-weaker}
use Rattle.model.specs.Polynomials.{degree_of}
use Rattle.poly_terms.specs.declared.keyed.Keyed.{Keyed}
use Rattle.poly_terms.specs.Expanding.{sum_of, product_of}
use Rattle.poly_terms.specs.Keys.{monomials_at, all_products, IsMergedFrom}
use Rattle.poly_terms.specs.Views.{monomials_of, poly_of}
use Rattle.poly_terms.proofs.KeyLaws.{product-at}
use Rattle.poly_terms.proofs.key_product.product_by_table.Goals as goal

pub returns : goal.returns
returns c =
    let p = monomials_of c.args.p.now in
    let q = monomials_of c.args.q.now in
    let table = c.in_ok-table.table.items in
    let left = c.in_ok-left.left.items in
    let right = c.in_ok-right.right.items in
    let whole = c.in_ok-whole.whole.items in
    let left-is : monomials_at table left ≡ p = (λ i. monomials_at (sym c.deref.ensures.value i) left) ∙ c.in_ok-left.ensures in
    let right-is : monomials_at table right ≡ q = (λ i. monomials_at (sym c.deref-2.ensures.value i) right) ∙ c.in_ok-right.ensures in
    let same : IsMergedFrom whole (all_products left right) =
    subst (λ (es : List Keyed). IsMergedFrom whole (all_products es right)) c.deref-3.ensures.value
    (subst (λ (fs : List Keyed). IsMergedFrom whole (all_products c.deref-3.result.now fs)) c.deref-4.ensures.value c.in_ok-whole.ensures) in
    let few : degree_of p + degree_of q ≤ 15 =
    omega (arith, c.degree.ensures, c.degree-2.ensures, c.saturating_add-factors.ensures, c.if-factors-gt-DIGIT_LIMIT.false) in
    IfOk-weaker c.unpacked_sum.result
    (λ r. poly_of r ≡ sum_of [] (monomials_at c.deref-5.result.now c.deref-6.result.now))
    (λ r. poly_of r ≡ product_of p q)
    (λ r e. e ∙ ((λ i. sum_of [] (monomials_at (c.deref-5.ensures.value i) (c.deref-6.ensures.value i)))
    ∙ product-at table left right whole p q left-is right-is c.in_ok-table.ensures few same))
    c.unpacked_sum.ensures
