use Rattle.std.proofs.Common.{◌-◌, List, arith, subst}
use Rattle.std.specs.Slice.{IsItemAt}
use Rattle.its_model.specs.declared.program.Rule.{Rule}
use Rattle.refined_programs.proofs.RuleNumbers.{rule-numbered}
use Rattle.refined_programs.proofs.spelling.rule_at.Goals as goal

pub returns-else-number-eq0 : goal.returns-else-number-eq0
returns-else-number-eq0 c =
    rule-numbered c.args.p.now c.args.number c.get.result (omega arith)
    (subst (λ (rs : List Rule). IsItemAt rs (c.args.number - 1) c.get.result) c.deref.ensures.value
    c.get.ensures.lookup)
