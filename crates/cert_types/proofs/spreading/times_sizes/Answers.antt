use Rattle.std.proofs.Common.{◌≤◌, ◌∙◌, length, ap, arith}
use Rattle.poly_terms.specs.model.Bounds.{ProductOf}
use Rattle.bound_expr.proofs.Views.{bound_of-Prod}
use Rattle.cert_types.proofs.Parts.{part_pushed, parts_whole}
use Rattle.cert_types.proofs.spreading.times_sizes.Goals as goal

pub loop-variable-preserved : goal.loop-variable-preserved
loop-variable-preserved g c =
    part_pushed _ c.args.variables.now c.loop-variable.variable-index 0 c.loop-variable.factors.items c.push-in-loop-variable.new.self.items c.in_ok-size.size _
    c.loop-variable-test.true c.loop-variable.invariant c.in_ok-push-2.ensures.items c.in_ok-size.ensures

pub returns : goal.returns
returns g c =
    let end : length c.args.variables.now ≤ c.loop-variable.variable-index = omega (arith, c.loop-variable-test.false) in
    bound_of-Prod c.loop-variable.factors ∙ ap ProductOf (parts_whole _ c.args.variables.now c.loop-variable.variable-index _ _ end c.loop-variable.invariant)
