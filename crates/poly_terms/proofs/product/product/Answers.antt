use Rattle.std.proofs.Common.{◌≡◌, ◌+◌, ◌*◌, ◌<◌, ◌≤◌, ◌^◌, List, length, get_or, drop, map, ap, sym, ◌∙◌, arith, subst}
use Rattle.std.proofs.lemmas.List.{length-map}
use Rattle.model.specs.Polynomials as plain
use Rattle.poly_terms.specs.Expanding.{all_added, multiplied, products}
use Rattle.model.specs.Limits.{coefficient_limit}
use Rattle.poly_terms.specs.declared.poly.Monomial.{Monomial}
use Rattle.poly_terms.specs.Views.{monomial_of, monomials_of}
use Rattle.poly_terms.specs.Wide.{entries_of}
use Rattle.poly_terms.proofs.LoopLaws.{monomials-from}
use Rattle.poly_terms.proofs.SumLaws.{bounded-here}
use Rattle.poly_terms.proofs.EntryLaws.{within-more}
use Rattle.poly_terms.proofs.CollectLaws.{all_added-append}
use Rattle.poly_terms.proofs.product.product.Goals as goal

pub add_row-requires-clause-left : goal.add_row-requires-clause-left
add_row-requires-clause-left c =
    let items = c.deref-m-items.ensures.value in
    bounded-here coefficient_limit c.args.p.now.terms.items c.loop-m.m-index c.m-item.result c.requires.left.coefficients
    (subst (λ (ts : List Monomial). c.loop-m.m-index < length ts) items c.loop-m-test.true)
    (subst (λ (ts : List Monomial). c.m-item.result ≡ get_or ts c.loop-m.m-index c.m-item.result) items c.m-item.is)

pub add_row-requires-clause-within : goal.add_row-requires-clause-within
add_row-requires-clause-within c =
    let test = subst (λ (ts : List Monomial). c.loop-m.m-index < length ts) c.deref-m-items.ensures.value c.loop-m-test.true in
    within-more (64 * c.loop-m.m-index) (2 ^ 30) c.loop-m.sums.entries
    (omega (arith, c.requires.left.terms, test, length-map c.args.p.now.terms.items monomial_of)) c.loop-m.invariant.within

pub loop-m-preserved : goal.loop-m-preserved
loop-m-preserved c =
    let items = c.deref-m-items.ensures.value in
    let q = monomials_of c.args.q.now.terms.items in
    let m = monomial_of c.m-item.result in
    let rest = monomials_of (drop (c.loop-m.m-index + 1) c.args.p.now.terms.items) in
    let now = entries_of c.loop-m.sums.entries in
    let here = monomials-from c.args.p.now.terms.items c.loop-m.m-index c.m-item.result
    (subst (λ (ts : List Monomial). c.loop-m.m-index < length ts) items c.loop-m-test.true)
    (subst (λ (ts : List Monomial). c.m-item.result ≡ get_or ts c.loop-m.m-index c.m-item.result) items c.m-item.is) in
    let row = c.in_ok-add_row.ensures.sums
    ∙ ap (λ (ts : List Monomial). all_added now (map (multiplied m) (monomials_of ts))) c.deref.ensures.value in
    let few : length c.deref.result.now ≤ 64 = omega (arith, c.requires.right.terms, length-map c.args.q.now.terms.items monomial_of, ap length c.deref.ensures.value) in
    record {
      sums = ap (λ (r : plain.Polynomial). all_added r (products rest q)) row
          ∙ (sym (all_added-append now (map (multiplied m) q) (products rest q))
          ∙ (sym (ap (λ (r : plain.Polynomial). all_added now (products r q)) here) ∙ c.loop-m.invariant.sums));
      within = within-more (64 * c.loop-m.m-index + length c.deref.result.now) (64 * (c.loop-m.m-index + 1)) c.add_row.new.sums.entries
          (omega (arith, few)) (c.in_ok-add_row.ensures.within (64 * c.loop-m.m-index) c.loop-m.invariant.within);
    }

pub collected-requires : goal.collected-requires
collected-requires c =
    within-more (64 * c.loop-m.m-index) (2 ^ 32) c.loop-m.sums.entries
    (omega (arith, c.requires.left.terms, length-map c.args.p.now.terms.items monomial_of, ap length c.deref-m-items.ensures.value, c.loop-m.auto.m-index-end)) c.loop-m.invariant.within
