use Rattle.std.proofs.Common.{◌≡◌, take, map}
use Rattle.its_model.specs.Views.{rule_of}
use Rattle.location_facts.specs.Strengthening.{strengthened_rule}
use Rattle.location_facts.proofs.strengthening.strengthened_rules.Given as goal

-- the rules so far have the atoms appended
abbrev pub invariant-loop-rule : goal.invariant-loop-rule
invariant-loop-rule l =
    map rule_of l.made.items ≡ map (strengthened_rule l.kept) (map rule_of (take l.rule-index l.rules))
