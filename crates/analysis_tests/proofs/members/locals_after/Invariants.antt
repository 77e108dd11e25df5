use Rattle.std.proofs.Common.{◌≡◌, length}
use Rattle.analysis_tests.proofs.members.locals_after.Given as goal

-- there is an answer for each place so far
abbrev pub invariant-loop-position : goal.invariant-loop-position
invariant-loop-position l = length l.answers.items ≡ l.position
