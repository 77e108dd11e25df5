use Rattle.std.proofs.Common.{◌≡◌, ◌++◌, None}
use Rattle.std.specs.List.{range_with_len}
use Rattle.its_model.specs.Views.{name_of}
use Rattle.location_facts.specs.Strengthening.{greatest_least}
use Rattle.facts_report.specs.FactTexts.{lines_of_each, line_of_strongest}
use Rattle.facts_report.proofs.lines.push_lines_with_plus.Given as goal

-- the lines of the minus places passed are appended to what was written
abbrev pub invariant-loop-minus : goal.invariant-loop-minus
invariant-loop-minus l =
    l.text.items ≡ l.initial.text.items ++ lines_of_each (λ j. line_of_strongest (name_of l.name) l.plus j
    (greatest_least l.plus j None l.facts)) (range_with_len 0 l.minus)
