use Rattle.std.proofs.Common.{◌≡◌, ◌+◌, ◌++◌, map, drop}
use Rattle.cert_types.specs.Views.{result_variable_of}
use Rattle.bound_derivations.specs.Views.{derivations_of}
use Rattle.time_bounds.specs.Beginning.{unreached_derivations}
use Rattle.time_bounds.proofs.beginning.push_unreached.Given as goal

-- the finished part and the rest are the whole list
abbrev pub invariant-loop-position : goal.invariant-loop-position
invariant-loop-position l =
    derivations_of l.derivations.items ++ unreached_derivations (map result_variable_of l.dead) (l.position + 1) (drop l.position l.rule_statuses)
    ≡ derivations_of l.initial.derivations.items ++ unreached_derivations (map result_variable_of l.dead) 1 l.rule_statuses
