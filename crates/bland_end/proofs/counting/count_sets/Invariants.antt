use Rattle.std.proofs.Common.{◌-◌, ◌≡◌, ◌+◌, ◌<◌, ◌≤◌, ◌^◌}
use Rattle.bland_end.specs.Counting.{choose}
use Rattle.bland_end.proofs.counting.count_sets.Given as goal

abbrev pub invariant-loop-taken : goal.invariant-loop-taken
invariant-loop-taken l = (l.sets ≡ choose (l.others + l.taken) l.taken) × (l.sets < 2 ^ 32) × (l.taken ≤ l.chosen)

abbrev pub decreases-loop-taken : goal.decreases-loop-taken
decreases-loop-taken l = l.chosen - l.taken
