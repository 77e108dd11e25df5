use Rattle.std.proofs.Common.{◌-◌, ◌∙◌, List, arith, subst}
use Rattle.std.specs.Slice.{IsItemAt}
use Rattle.its_model.specs.declared.program.Rule.{Rule}
use Rattle.its_model.specs.Views.{rule_of}
use Rattle.potential_types.proofs.LookupLaws.{item-numbered}
use Rattle.check_potentials.specs.Grounds.{program}
use Rattle.check_potentials.proofs.GroundLaws.{rule-numbered}
use Rattle.check_potentials.proofs.ground.rule_numbered.Goals as goal

pub returns : goal.returns
returns c =
    item-numbered rule_of c.args.ground.program.now.rules.items c.args.rule c.get.result (omega arith)
    (subst (λ (rs : List Rule). IsItemAt rs (c.args.rule - 1) c.get.result) c.deref.ensures.value c.get.ensures.lookup)
    ∙ rule-numbered (program c.args.ground) c.args.rule
