use Rattle.std.proofs.Common.{◌≡◌, ◌++◌, map, drop, codes}
use Rattle.section_writer.specs.Lists.{each_behind}
use Rattle.potential_types.specs.Views.{move_of}
use Rattle.potential_writer.specs.Lemmas.{move_text}
use Rattle.potential_writer.proofs.moves.push_more_moves.Given as goal

-- the text so far and that of the remaining moves are the whole text
abbrev pub invariant-loop-step : goal.invariant-loop-step
invariant-loop-step l =
    l.text.items ++ each_behind (codes "; ") (map move_text (map move_of (drop l.step-index l.moves)))
    ≡ l.initial.text.items ++ each_behind (codes "; ") (map move_text (map move_of l.moves))
