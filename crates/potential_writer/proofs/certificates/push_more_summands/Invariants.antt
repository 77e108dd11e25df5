use Rattle.std.proofs.Common.{◌≡◌, ◌++◌, map, drop, codes}
use Rattle.section_writer.specs.Lists.{each_behind}
use Rattle.potential_types.specs.Views.{summands_of}
use Rattle.potential_writer.specs.Parts.{summand_text}
use Rattle.potential_writer.proofs.certificates.push_more_summands.Given as goal

-- the text so far and that of the remaining summands are the whole text
abbrev pub invariant-loop-summand : goal.invariant-loop-summand
invariant-loop-summand l =
    l.text.items ++ each_behind (codes "; ") (map summand_text (summands_of (drop l.summand-index l.summands)))
    ≡ l.initial.text.items ++ each_behind (codes "; ") (map summand_text (summands_of l.summands))
