use Rattle.std.proofs.Common.{◌≡◌, drop, map, []}
use Rattle.its_model.specs.Views.{rule_of}
use Rattle.expr_reader.specs.Variables.{names_in}
use Rattle.its_writer.specs.Texts.{with_rules}
use Rattle.its_writer.proofs.names.variables_of.Given as goal

-- adding the names of the remaining rules to the current ones gives the same result as adding those of all rules to
-- none
abbrev pub invariant-loop-rule : goal.invariant-loop-rule
invariant-loop-rule l = with_rules (names_in l.known) (map rule_of (drop l.rule-index l.rules)) ≡ with_rules [] (map rule_of l.rules)
