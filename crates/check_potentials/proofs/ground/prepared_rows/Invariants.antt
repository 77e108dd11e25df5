use Rattle.std.proofs.Common.{◌≡◌, map, take}
use Rattle.its_model.specs.Views.{rule_of}
use Rattle.check_potentials.specs.Grounds.{rule_prepared, rule_prepared_of}
use Rattle.check_potentials.proofs.ground.prepared_rows.Given as goal

-- what is prepared of the rules so far
abbrev pub invariant-loop-rule : goal.invariant-loop-rule
invariant-loop-rule l =
    map rule_prepared_of l.rules.items ≡ map rule_prepared (map rule_of (take l.rule-index l.program.rules.items))
