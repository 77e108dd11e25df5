use Rattle.std.proofs.Common.{◌≡◌, ◌++◌, map, drop, codes}
use Rattle.refined_programs.specs.Ends.{lists_of}
use Rattle.section_writer.specs.Lists.{each_behind, number_list}
use Rattle.section_writer.proofs.numbers.push_more_lists.Given as goal

-- the text so far and that of the remaining lists are the whole text
abbrev pub invariant-loop-list : goal.invariant-loop-list
invariant-loop-list l =
    l.text.items ++ each_behind (codes "; ") (map number_list (lists_of (drop l.list-index l.by)))
    ≡ l.initial.text.items ++ each_behind (codes "; ") (map number_list (lists_of l.by))
