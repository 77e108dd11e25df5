use Rattle.std.proofs.Common.{◌≤◌, ◌∙◌, length, get_or, ap, arith}
use Rattle.bound_expr.proofs.Views.{bound_of-Max}
use Rattle.model.specs.Bounds.{MaximumOf}
use Rattle.cert_types.proofs.Parts.{part_pushed, parts_whole}
use Rattle.cert_types.specs.Composing.{optional_poly}
use Rattle.cert_types.specs.Views.{side_bound_of}
use Rattle.cert_types.specs.cert_rules.Composed.{sizes_after}
use Rattle.cost_nodes.proofs.ComposedCosts.{no-members}
use Rattle.cost_nodes.proofs.composing.step_bound.Goals as goal

pub loop-rule-preserved : goal.loop-rule-preserved
loop-rule-preserved g c =
    part_pushed _ c.args.before.now c.loop-rule.rule-index 0 c.loop-rule.parts.items c.push.new.self.items c.in_ok-part.part _
    c.loop-rule-test.true c.loop-rule.invariant c.in_ok-push.ensures.items
    (c.in_ok-part.ensures ∙ no-members (optional_poly c.args.poly) (side_bound_of c.args.side_bound.now)
    (get_or c.args.before.now c.loop-rule.rule-index 0)
    (sizes_after (g.K.Known.table c.args.known.now).size (get_or c.args.before.now c.loop-rule.rule-index 0)))

pub returns : goal.returns
returns g c =
    let end : length c.args.before.now ≤ c.loop-rule.rule-index = omega (arith, c.loop-rule-test.false) in
    bound_of-Max c.loop-rule.parts ∙ ap MaximumOf (parts_whole _ c.args.before.now c.loop-rule.rule-index _ _ end c.loop-rule.invariant)
