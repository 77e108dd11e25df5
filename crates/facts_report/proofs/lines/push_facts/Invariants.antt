use Rattle.std.proofs.Common.{◌≡◌, ◌++◌}
use Rattle.std.specs.List.{range_with_len}
use Rattle.its_model.specs.Views.{name_of}
use Rattle.facts_report.specs.FactTexts.{lines_of_each, lines_with_plus}
use Rattle.facts_report.proofs.lines.push_facts.Given as goal

-- the lines of the plus places passed are appended to what was written
abbrev pub invariant-loop-plus : goal.invariant-loop-plus
invariant-loop-plus l =
    l.text.items ≡ l.initial.text.items ++ lines_of_each (lines_with_plus (name_of l.name) l.facts)
    (range_with_len 0 l.plus)
