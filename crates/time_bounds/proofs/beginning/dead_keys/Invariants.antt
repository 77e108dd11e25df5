use Rattle.std.proofs.Common.{◌≡◌, ◌+◌, ◌++◌, map, drop}
use Rattle.cert_types.specs.Views.{result_variable_of}
use Rattle.time_bounds.specs.Beginning.{empty_keys}
use Rattle.time_bounds.proofs.beginning.dead_keys.Given as goal

-- the finished part and the rest are the whole list
abbrev pub invariant-loop-position : goal.invariant-loop-position
invariant-loop-position l =
    map result_variable_of l.keys.items ++ empty_keys (l.position + 1) (drop l.position l.rule_statuses) ≡ empty_keys 1 l.rule_statuses
