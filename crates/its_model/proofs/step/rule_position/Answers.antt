use Rattle.std.proofs.Common.{arith}
use Rattle.its_model.proofs.RuleLaws.{rule-at, rule-past}
use Rattle.its_model.proofs.step.rule_position.Goals as goal

pub returns-then-i-len : goal.returns-then-i-len
returns-then-i-len c = (omega (arith, c.args.p.now.rules.ok.0), λ r e. rule-at c.args.p.now c.args.number r (omega arith) (omega (arith, c.args.p.now.rules.ok.0)) e)

pub returns-else-i-len : goal.returns-else-i-len
returns-else-i-len c = rule-past c.args.p.now c.args.number (omega arith) (omega (arith, c.args.p.now.rules.ok.0))
