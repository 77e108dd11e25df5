use Rattle.std.proofs.Common.{◌≡◌, map, drop}
use Rattle.cert_types.specs.Views.{result_variable_of}
use Rattle.size_nodes.specs.Needs.{first_missing}
use Rattle.size_nodes.proofs.missing.first_missing.Given as goal

-- the first missing one is that of the remaining result variables
abbrev pub invariant-loop-result_variable : goal.invariant-loop-result_variable
invariant-loop-result_variable g l =
    first_missing (g.K.Known.table l.known) (map result_variable_of (drop l.result_variable-index l.result_variables)) ≡ first_missing (g.K.Known.table l.known) (map result_variable_of l.result_variables)
