-- Two more rules have been built.
use Rattle.std.proofs.Common.{◌∙◌, ◌++◌, [], ◌∷◌, List, ap, map}
use Rattle.its_model.specs.Views.{rule_of}
use Rattle.its_model.specs.declared.program.Rule.{Rule}
use Rattle.its_writer.proofs.GeneratedMade.{rules_more}
use Rattle.its_writer.proofs.generator.rules.Goals as goal

pub loop-before-preserved : goal.loop-before-preserved
loop-before-preserved c =
    ap (map rule_of) (c.in_ok-push-3.ensures.items ∙ ap (λ (rs : List Rule). rs ++ c.in_ok-leaving_rule.field-0 ∷ []) c.in_ok-push-2.ensures.items)
    ∙ rules_more c.loop-before.rules.items c.in_ok-counting_rule.field-0 c.in_ok-leaving_rule.field-0 c.loop-before.before c.loop-before.invariant
    c.in_ok-counting_rule.ensures c.in_ok-leaving_rule.ensures
