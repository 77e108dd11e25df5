use Rattle.std.proofs.Common.{◌≡◌, ◌+◌, ◌++◌, map, drop}
use Rattle.report_text.specs.Pieces.{with_commas_before}
use Rattle.std.specs.Prelude.{decimal}
use Rattle.report_text.proofs.numbers.push_more_rules.Given as goal

-- the written text and the remaining one are the whole
abbrev pub invariant-loop-rule : goal.invariant-loop-rule
invariant-loop-rule l = l.text.items ++ with_commas_before (map decimal (drop l.rule-index l.rules)) ≡ l.initial.text.items ++ with_commas_before (map decimal l.rules)
