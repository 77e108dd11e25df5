use Rattle.std.proofs.Common.{◌≡◌, ◌++◌, drop}
use Rattle.koat_cli.specs.LassoTexts.{rule_lines}
use Rattle.koat_cli.proofs.lasso_answer.push_rules.Given as goal

-- the written text and the remaining one are the whole
abbrev pub invariant-loop-rule : goal.invariant-loop-rule
invariant-loop-rule l =
    l.text.items ++ rule_lines (drop l.rule-index l.rules) ≡ l.initial.text.items ++ rule_lines l.rules
