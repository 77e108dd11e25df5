use Rattle.std.proofs.Common.{◌≡◌, map, take}
use Rattle.its_model.specs.Views.{rule_of}
use Rattle.section_makers.specs.Lighter.{lighter_rule}
use Rattle.section_makers.proofs.atoms.without_large_atoms.Given as goal

-- the rules are those before this one without large atoms
abbrev pub invariant-loop-rule : goal.invariant-loop-rule
invariant-loop-rule l =
    map rule_of l.rules.items ≡ map (lighter_rule l.limit) (map rule_of (take l.rule-index l.p.rules.items))
