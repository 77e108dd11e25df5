use Rattle.std.proofs.Common.{◌≤◌, ◌∙◌, length, ap, arith}
use Rattle.poly_terms.specs.model.Bounds.{MaximumOf}
use Rattle.bound_expr.proofs.Views.{bound_of-Max}
use Rattle.cert_types.proofs.Parts.{part_pushed, parts_whole}
use Rattle.cert_types.proofs.spreading.composed_size.Goals as goal

pub loop-rule-preserved : goal.loop-rule-preserved
loop-rule-preserved g c =
    part_pushed _ c.args.before.now c.loop-rule.rule-index 0 c.loop-rule.parts.items c.push.new.self.items c.in_ok-part.part _
    c.loop-rule-test.true c.loop-rule.invariant c.in_ok-push.ensures.items c.in_ok-part.ensures

pub returns : goal.returns
returns g c =
    let end : length c.args.before.now ≤ c.loop-rule.rule-index = omega (arith, c.loop-rule-test.false) in
    bound_of-Max c.loop-rule.parts ∙ ap MaximumOf (parts_whole _ c.args.before.now c.loop-rule.rule-index _ _ end c.loop-rule.invariant)
