use Rattle.std.proofs.Common.{◌≡◌, ◌++◌, map, drop}
use Rattle.cert_types.specs.Views.{result_variable_of, member_of}
use Rattle.size_nodes.specs.Needs.{result_variables_from}
use Rattle.size_nodes.proofs.premises.push_from.Given as goal

-- the result variables so far and those of the remaining rules are all
abbrev pub invariant-loop-rule : goal.invariant-loop-rule
invariant-loop-rule l =
    map result_variable_of l.result_variables.items ++ result_variables_from (map member_of l.cycle.members.now) l.up l.low (drop l.rule-index l.before)
    ≡ map result_variable_of l.initial.result_variables.items ++ result_variables_from (map member_of l.cycle.members.now) l.up l.low l.before
