use Rattle.std.proofs.Common.{◌≡◌, ◌++◌, map, drop, codes}
use Rattle.section_writer.specs.Lists.{each_behind}
use Rattle.potential_types.specs.Views.{counted_of}
use Rattle.potential_writer.specs.Lemmas.{counted_text}
use Rattle.potential_writer.proofs.phases.push_more_counted.Given as goal

-- the text so far and that of the remaining rules are the whole text
abbrev pub invariant-loop-rule : goal.invariant-loop-rule
invariant-loop-rule l =
    l.text.items ++ each_behind (codes "; ") (map counted_text (map counted_of (drop l.rule-index l.counted)))
    ≡ l.initial.text.items ++ each_behind (codes "; ") (map counted_text (map counted_of l.counted))
