use Rattle.std.proofs.Common.{◌≡◌, ℕ, max, length, ap, arith}
use Rattle.std.proofs.lemmas.Bool.Decides.{nat_tests}
use Rattle.model.specs.Polynomials.{degree_of}
use Rattle.poly_terms.proofs.LoopLaws.{monomials-from}
use Rattle.poly_terms.proofs.limits.degree.Goals as goal

pub loop-m-preserved : goal.loop-m-preserved
loop-m-preserved c =
    let rest = ap degree_of (monomials-from c.args.terms.now c.loop-m.m-index c.m-item.result c.loop-m-test.true c.m-item.is) in
    let next : c.max-most.result ≡ max c.loop-m.most (length c.m-item.result.vars.items) = grind (arith, nat_tests) in
    step _ _ _ _ _ _ rest c.loop-m.invariant next
  where
    step : (most next whole here left found : ℕ) → whole ≡ max here left → max most whole ≡ found → next ≡ max most here → max next left ≡ found
    step most next whole here left found e f g = omega arith
