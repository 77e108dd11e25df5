use Rattle.std.proofs.Common.{◌≡◌, ◌++◌, map, drop, codes}
use Rattle.std.specs.Prelude.{decimal}
use Rattle.cert_text.specs.Lists.{each_behind}
use Rattle.cert_text.proofs.numbers.push_more_rules.Given as goal

-- the text so far and that of the remaining rules are the whole text
abbrev pub invariant-loop-rule : goal.invariant-loop-rule
invariant-loop-rule l =
    l.text.items ++ each_behind (codes " ") (map decimal (drop l.rule-index l.rules))
    ≡ l.initial.text.items ++ each_behind (codes " ") (map decimal l.rules)
