use Rattle.std.proofs.Common.{◌∙◌, ap, subst, ◌<◌, length, List, get_or}
use Rattle.its_model.specs.declared.program.Rule.{Rule}
use Rattle.check_potentials.proofs.GroundLaws.{rule-preparable}
use Rattle.check_potentials.proofs.ground.prepared_rows.Goals as goal

pub prepared_rule-requires : goal.prepared_rule-requires
prepared_rule-requires c =
    rule-preparable c.args.program.now c.loop-rule.rule-index c.rule-item.result c.requires
    (subst (λ (rs : List Rule). c.loop-rule.rule-index < length rs) c.deref-rule-items.ensures.value
    c.loop-rule-test.true)
    (c.rule-item.is
    ∙ ap (λ (rs : List Rule). get_or rs c.loop-rule.rule-index c.rule-item.result) c.deref-rule-items.ensures.value)
