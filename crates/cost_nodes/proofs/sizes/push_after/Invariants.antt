use Rattle.std.proofs.Common.{◌≡◌, ◌++◌, map, drop}
use Rattle.cert_types.specs.Views.{result_variable_of}
use Rattle.cert_types.specs.cert_rules.Checks.{result_variables_after}
use Rattle.cost_nodes.proofs.sizes.push_after.Given as goal

-- What is done and what is left are all.
abbrev pub invariant-loop-place : goal.invariant-loop-place
invariant-loop-place l =
    map result_variable_of l.result_variables.items ++ result_variables_after l.rule (drop l.place-index l.places)
    ≡ map result_variable_of l.initial.result_variables.items ++ result_variables_after l.rule l.places
