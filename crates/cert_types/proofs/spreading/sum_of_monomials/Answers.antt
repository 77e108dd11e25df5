use Rattle.std.proofs.Common.{◌≤◌, ◌∙◌, length, ap, arith}
use Rattle.poly_terms.specs.model.Bounds.{SumOf}
use Rattle.bound_expr.proofs.Views.{bound_of-Sum}
use Rattle.cert_types.proofs.Spreads.{monomials_whole}
use Rattle.cert_types.proofs.spreading.sum_of_monomials.Goals as goal

pub returns : goal.returns
returns g c =
    let end : length c.args.monomials.now ≤ c.loop-monomial.monomial-index = omega (arith, c.loop-monomial-test.false) in
    bound_of-Sum c.loop-monomial.parts ∙ ap SumOf (monomials_whole _ c.args.monomials.now c.loop-monomial.monomial-index _ _ end c.loop-monomial.invariant)
