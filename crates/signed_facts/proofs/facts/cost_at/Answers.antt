use Rattle.std.proofs.Common.{sym}
use Rattle.its_model.specs.Views.{program_of, rule_of}
use Rattle.its_model.proofs.ValidLaws.{rule-valid}
use Rattle.signed_facts.proofs.facts.cost_at.Goals as goal

pub cost_of-requires : goal.cost_of-requires
cost_of-requires c =
    (rule-valid (program_of c.args.p.now) c.args.rule (rule_of c.in-Some.found.now) c.requires
    (sym c.in-Some.ensures)).cost
