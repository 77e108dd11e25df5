use Rattle.std.proofs.Common.{◌≡◌, ◌+◌, ◌^◌, map, drop, ap, sym, ◌∙◌, arith, subst, ℕ}
use Rattle.model.specs.Polynomials as plain
use Rattle.poly_terms.specs.Expanding.{all_added, multiplied}
use Rattle.model.specs.Limits.{coefficient_limit}
use Rattle.poly_terms.specs.Views.{monomial_of, monomials_of}
use Rattle.poly_terms.specs.Wide.{entries_of, AreWithin}
use Rattle.poly_terms.proofs.LoopLaws.{monomials-from}
use Rattle.poly_terms.proofs.SumLaws.{bounded-here}
use Rattle.poly_terms.proofs.EntryLaws.{within-more}
use Rattle.poly_terms.proofs.product.add_row.Goals as goal

pub add_product-requires-clause-right : goal.add_product-requires-clause-right
add_product-requires-clause-right c =
    bounded-here coefficient_limit c.args.terms.now c.loop-n.n-index c.n-item.result c.requires.right c.loop-n-test.true c.n-item.is

pub add_product-requires-clause-within : goal.add_product-requires-clause-within
add_product-requires-clause-within c =
    within-more (2 ^ 30 + c.loop-n.n-index) (2 ^ 31) c.loop-n.sums.entries (omega (arith, c.requires.few, c.loop-n-test.true)) (c.loop-n.invariant.within (2 ^ 30) c.requires.within)

pub loop-n-preserved : goal.loop-n-preserved
loop-n-preserved c = record {
  sums = ap (λ (q : plain.Polynomial). all_added q (map (multiplied (monomial_of c.args.m.now)) (monomials_of (drop (c.loop-n.n-index + 1) c.args.terms.now)))) c.in_ok-add_product.ensures.sums
      ∙ (sym (ap (λ (q : plain.Polynomial). all_added (entries_of c.loop-n.sums.entries) (map (multiplied (monomial_of c.args.m.now)) q))
      (monomials-from c.args.terms.now c.loop-n.n-index c.n-item.result c.loop-n-test.true c.n-item.is)) ∙ c.loop-n.invariant.sums);
  within = λ k a. subst (λ (j : ℕ). AreWithin j c.add_product.new.sums.entries) (let e : k + c.loop-n.n-index + 1 ≡ k + (c.loop-n.n-index + 1) = omega arith in e)
      (c.in_ok-add_product.ensures.within (k + c.loop-n.n-index) (c.loop-n.invariant.within k a));
}

pub returns-clause-within : goal.returns-clause-within
returns-clause-within c = λ k a. within-more (k + c.loop-n.n-index) _ c.loop-n.sums.entries (omega arith) (c.loop-n.invariant.within k a)
