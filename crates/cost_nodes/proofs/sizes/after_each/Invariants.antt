use Rattle.std.proofs.Common.{◌≡◌, ◌++◌, map, drop}
use Rattle.cert_types.specs.Views.{result_variable_of}
use Rattle.cost_nodes.specs.ComposedCosts.{result_variables_after_each}
use Rattle.cost_nodes.proofs.sizes.after_each.Given as goal

-- What is done and what is left are all.
abbrev pub invariant-loop-rule : goal.invariant-loop-rule
invariant-loop-rule l =
    map result_variable_of l.result_variables.items ++ result_variables_after_each l.places (drop l.rule-index l.before) ≡ result_variables_after_each l.places l.before
