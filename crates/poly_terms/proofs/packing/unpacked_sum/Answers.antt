use Rattle.std.proofs.Common.{◌+◌, ◌*◌, ◌^◌, [], sym, subst, arith}
use Rattle.poly_terms.specs.Expanding.{added, all_added}
use Rattle.poly_terms.specs.Ordered.{IsAscending, IsBounded}
use Rattle.poly_terms.specs.Keys.{monomials_at}
use Rattle.poly_terms.specs.Views.{monomial_of, monomials_of}
use Rattle.poly_terms.proofs.OrderLaws.{ascending-added}
use Rattle.poly_terms.proofs.SumLaws.{bounded-more, bounded-added}
use Rattle.poly_terms.proofs.UnpackingLaws.{unpacked-next}
use Rattle.poly_terms.proofs.packing.unpacked_sum.Goals as goal

pub add-requires-clause-before : goal.add-requires-clause-before
add-requires-clause-before c =
    bounded-more (2 ^ 63 * c.loop-e.e-index) (2 ^ 100) (monomials_of c.loop-e.terms.items)
    (omega (arith, c.loop-e-test.true, c.if-es-gt-UNPACKED_LIMIT.false)) c.loop-e.invariant.before

pub add-requires-clause-small : goal.add-requires-clause-small
add-requires-clause-small c = omega (arith, c.in_ok-m.ensures.small)

pub loop-e-preserved : goal.loop-e-preserved
loop-e-preserved c =
    let m = monomial_of c.in_ok-m.m in
    let terms = monomials_of c.loop-e.terms.items in
    record {
      whole = unpacked-next c.args.table.now c.args.es.now _ c.loop-e.e-index m terms (monomials_of c.add.new.terms.items)
          (all_added [] (monomials_at c.args.table.now c.args.es.now)) c.loop-e-test.true c.in_ok-m.ensures.value c.in_ok-add.ensures c.loop-e.invariant.whole;
      ascending = subst IsAscending (sym c.in_ok-add.ensures) (ascending-added m terms c.loop-e.invariant.ascending);
      before = subst (IsBounded (2 ^ 63 * (c.loop-e.e-index + 1))) (sym c.in_ok-add.ensures)
          (bounded-more (2 ^ 63 * c.loop-e.e-index + 2 ^ 63) (2 ^ 63 * (c.loop-e.e-index + 1)) (added m terms) (omega arith)
          (bounded-added (2 ^ 63 * c.loop-e.e-index) (2 ^ 63) m terms c.in_ok-m.ensures.small c.loop-e.invariant.before));
    }
