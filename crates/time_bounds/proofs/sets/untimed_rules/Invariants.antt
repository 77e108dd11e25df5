use Rattle.std.proofs.Common.{◌≡◌, map, take}
use Rattle.size_bounds.specs.Tables.{is_unstored}
use Rattle.time_bounds.proofs.sets.untimed_rules.Given as goal

abbrev pub invariant-loop-time : goal.invariant-loop-time
invariant-loop-time l = l.flags.items ≡ map is_unstored (take l.time-index l.table.times.items)
