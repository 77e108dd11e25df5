use Rattle.std.proofs.Common.{◌≡◌, ◌*◌, ◌-◌, ◌≤◌, ◌^◌, ◌+◌, suc, refl, List, [], ◌∷◌, length, ap, sym, ◌∙◌, arith}
use Rattle.std.proofs.Common.{subst}
use Rattle.std.proofs.lemmas.List.{length-map}
use Rattle.model.specs.Polynomials as plain
use Rattle.poly_terms.specs.declared.poly.Monomial.{Monomial}
use Rattle.poly_terms.specs.Expanding.{added, all_added, without_zeros}
use Rattle.model.specs.Limits.{coefficient_limit}
use Rattle.poly_terms.specs.Ordered.{IsAscending, IsBounded}
use Rattle.poly_terms.specs.Views.{monomial_of, poly_of, monomials_of}
use Rattle.poly_terms.proofs.SumLaws.{bounded-more, bounded-added}
use Rattle.poly_terms.proofs.OrderLaws.{ascending-added}
use Rattle.poly_terms.proofs.sum.sum_by_insertion.Goals as goal

pub loop-m-init : goal.loop-m-init
loop-m-init c =
    let all = c.into_iter-m-iterator.ensures.into_iter_gives.0 in
    let q = c.args.q.terms.items in
    let few : length c.into_iter-m-iterator.result.rest.items ≤ 64 = omega (arith, ap length all, c.requires.right.terms, length-map q monomial_of) in
    record {
      whole = ap (λ (ms : List Monomial). all_added (monomials_of c.args.p.terms.items) (monomials_of ms)) all;
      ascending = c.requires.ascending;
      few = few;
      before = bounded-more coefficient_limit _ (poly_of c.args.p) (omega (arith, few)) c.requires.left.coefficients;
      left = subst (λ (ms : List Monomial). IsBounded coefficient_limit (monomials_of ms)) (sym all) c.requires.right.coefficients;
    }

pub add-requires-clause-ascending : goal.add-requires-clause-ascending
add-requires-clause-ascending c = c.loop-m.invariant.ascending

pub add-requires-clause-before : goal.add-requires-clause-before
add-requires-clause-before c = bounded-more (coefficient_limit * (65 - length c.loop-m.m-iterator.rest.items)) (2 ^ 100) (monomials_of c.loop-m.terms.items) (omega arith) c.loop-m.invariant.before

pub add-requires-clause-small : goal.add-requires-clause-small
add-requires-clause-small c =
    let left = subst (λ (ms : List Monomial). IsBounded coefficient_limit (monomials_of ms)) c.in-Some.ensures.steps.0 c.loop-m.invariant.left in
    omega (arith, left.0)

pub loop-m-preserved : goal.loop-m-preserved
loop-m-preserved c =
    let steps = c.in-Some.ensures.steps.0 in
    let terms = monomials_of c.loop-m.terms.items in
    let rest = c.loop-m.m-iterator.rest.items in
    let next = c.next.new.self.rest.items in
    let left = subst (λ (ms : List Monomial). IsBounded coefficient_limit (monomials_of ms)) steps c.loop-m.invariant.left in
    let one : length rest ≡ suc (length next) = ap length steps in
    record {
      whole = ap (λ (ts : plain.Polynomial). all_added ts (monomials_of next)) c.in_ok-add.ensures
          ∙ (sym (ap (λ (ms : List Monomial). all_added terms (monomials_of ms)) steps) ∙ c.loop-m.invariant.whole);
      ascending = subst IsAscending (sym c.in_ok-add.ensures) (ascending-added (monomial_of c.in-Some.m) terms c.loop-m.invariant.ascending);
      few = omega (arith, one, c.loop-m.invariant.few);
      before = subst (IsBounded (coefficient_limit * (65 - length next))) (sym c.in_ok-add.ensures)
          (bounded-more (coefficient_limit * (65 - length rest) + coefficient_limit) (coefficient_limit * (65 - length next)) (added (monomial_of c.in-Some.m) terms)
          (omega (arith, one, c.loop-m.invariant.few))
          (bounded-added (coefficient_limit * (65 - length rest)) coefficient_limit (monomial_of c.in-Some.m) terms left.0 c.loop-m.invariant.before));
      left = left.1;
    }

pub returns : goal.returns
returns c =
    let rest = c.loop-m.m-iterator.rest.items in
    let none : rest ≡ [] = empty rest (omega (arith, c.in-None.ensures.steps.0, c.loop-m.m-iterator.rest.ok.0)) in
    c.nonzero.ensures
    ∙ ap without_zeros (sym (ap (λ (ms : List Monomial). all_added (monomials_of c.loop-m.terms.items) (monomials_of ms)) none) ∙ c.loop-m.invariant.whole)
  where
    empty : (ms : List Monomial) → length ms ≡ 0 → ms ≡ []
    empty [] e = refl
    empty (m ∷ ms) e = absurd (omega (arith, e))
