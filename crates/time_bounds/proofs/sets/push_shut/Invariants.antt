use Rattle.std.proofs.Common.{◌≡◌, ◌++◌}
use Rattle.rank_search.specs.rule_questions.ProgramQuestions.{places_of}
use Rattle.size_bounds.specs.Tables.{table_of}
use Rattle.time_bounds.specs.Shutting.{shut_at}
use Rattle.time_bounds.proofs.sets.push_shut.Given as goal

abbrev pub invariant-loop-position : goal.invariant-loop-position
invariant-loop-position l =
    places_of l.shut.items ≡ places_of l.initial.shut.items ++ shut_at (table_of l.table) l.into l.symbol l.position
