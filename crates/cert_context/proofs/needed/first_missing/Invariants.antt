use Rattle.std.proofs.Common.{map, take}
use Rattle.std.specs.List.{All}
use Rattle.cert_types.specs.Views.{result_variable_of}
use Rattle.cert_context.specs.Needed.{HasSize}
use Rattle.cert_context.proofs.needed.first_missing.Given as goal

-- the places before this one have sizes
abbrev pub invariant-loop-result_variable : goal.invariant-loop-result_variable
invariant-loop-result_variable g l = All (HasSize (g.K.Known.table l.known)) (map result_variable_of (take l.result_variable-index l.result_variables))
