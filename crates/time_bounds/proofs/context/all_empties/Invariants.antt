use Rattle.std.proofs.Common.{take}
use Rattle.time_bounds.specs.Questions.{AreAnswersFrom}
use Rattle.time_bounds.proofs.context.all_empties.Given as goal

-- the answers for the rows so far
abbrev pub invariant-loop-position : goal.invariant-loop-position
invariant-loop-position l = AreAnswersFrom l.pivots 1 (take l.position l.prepared_rules) l.answers.items
