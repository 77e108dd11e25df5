use Rattle.std.proofs.Common.{◌≡◌, ◌-◌, ◌++◌, length}
use Rattle.its_model.specs.Views.{program_of}
use Rattle.rank_search.specs.rule_questions.ProgramQuestions.{places_of}
use Rattle.size_bounds.specs.Tables.{table_of}
use Rattle.time_bounds.specs.Shutting.{shut_from}
use Rattle.time_bounds.proofs.sets.shut_places.Given as goal

-- the shut places so far and those of the remaining symbols are all
abbrev pub invariant-loop-mark : goal.invariant-loop-mark
invariant-loop-mark l =
    places_of l.shut.items
    ++ shut_from (program_of l.cx.program.now) (table_of l.table) l.entering l.mark-index (length l.cx.program.now.symbols.items - l.mark-index)
    ≡ shut_from (program_of l.cx.program.now) (table_of l.table) l.entering 0 (length l.cx.program.now.symbols.items)
