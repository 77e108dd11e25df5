use Rattle.its_model.specs.Views.{rule_of}
use Rattle.check_potentials.specs.Grounds.{program}
use Rattle.check_potentials.proofs.GroundLaws.{variables-few}
use Rattle.check_potentials.proofs.ground.variables_of.Goals as goal

pub returns-in-Some : goal.returns-in-Some
returns-in-Some c =
    variables-few (program c.args.ground) c.args.rule (rule_of c.in-Some.found.now) c.saturating_add.result
    c.requires.valid
    c.in-Some.ensures c.saturating_add.ensures
