use Rattle.std.proofs.Common.{◌∙◌, ap, subst, ◌<◌, length, List, get_or}
use Rattle.its_model.specs.declared.program.Rule.{Rule}
use Rattle.cost_nodes.proofs.WrittenCosts.{rule-preparable}
use Rattle.best_bounds.proofs.candidates.rows_of_rules.Goals as goal

pub rows-requires : goal.rows-requires
rows-requires c =
    rule-preparable c.args.p.now c.loop-rule.rule-index c.rule-item.result c.requires
    (subst (λ (rs : List Rule). c.loop-rule.rule-index < length rs) c.deref-rule-items.ensures.value c.loop-rule-test.true)
    (c.rule-item.is ∙ ap (λ (rs : List Rule). get_or rs c.loop-rule.rule-index c.rule-item.result) c.deref-rule-items.ensures.value)
