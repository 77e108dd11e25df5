use Rattle.std.proofs.Common.{◌≡◌, map, drop}
use Rattle.std.specs.List.{find}
use Rattle.its_model.specs.Views.{rule_of}
use Rattle.expr_reader.specs.Variables.{names_in}
use Rattle.its_reader.specs.Finishing.{leaves}
use Rattle.its_reader.proofs.finish.first_leaving.Given as goal

-- the first rule that leaves the start symbol among the remaining rules is the first of all
abbrev pub invariant-loop-rule : goal.invariant-loop-rule
invariant-loop-rule l = find (leaves (names_in l.symbols.names) l.name) (map rule_of (drop l.rule-index l.rules))
    ≡ find (leaves (names_in l.symbols.names) l.name) (map rule_of l.rules)
