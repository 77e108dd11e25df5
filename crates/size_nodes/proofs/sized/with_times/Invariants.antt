use Rattle.std.proofs.Common.{◌≡◌, ◌++◌, map, drop}
use Rattle.cert_types.specs.Views.{result_variable_of}
use Rattle.size_nodes.specs.Sizings.{time_key}
use Rattle.size_nodes.proofs.sized.with_times.Given as goal

-- the keys so far and those of the remaining rules are all
abbrev pub invariant-loop-rule : goal.invariant-loop-rule
invariant-loop-rule l =
    map result_variable_of l.premises.items ++ map time_key (drop l.rule-index l.rules)
    ≡ map result_variable_of l.initial.premises.items ++ map time_key l.rules
