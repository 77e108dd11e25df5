use Rattle.std.proofs.Common.{take}
use Rattle.rule_questions.specs.ProgramQuestions.{places_of}
use Rattle.rank_search.specs.ShutPlaces.{HasShut}
use Rattle.rank_search.proofs.shut.shut_set.Given as goal

-- the set contains the places so far
abbrev pub invariant-loop-place : goal.invariant-loop-place
invariant-loop-place l = HasShut l.set (places_of (take l.place-index l.shut))
