use Rattle.std.proofs.Common.{◌≡◌, ◌++◌, map, drop}
use Rattle.cert_types.specs.Views.{result_variable_of, member_of}
use Rattle.size_nodes.specs.Needs.{result_variables_outside}
use Rattle.size_nodes.proofs.premises.push_each.Given as goal

-- the result variables so far and those of the remaining places are all
abbrev pub invariant-loop-position : goal.invariant-loop-position
invariant-loop-position l =
    map result_variable_of l.result_variables.items ++ result_variables_outside (map member_of l.members) l.rule (drop l.position-index l.places)
    ≡ map result_variable_of l.initial.result_variables.items ++ result_variables_outside (map member_of l.members) l.rule l.places
