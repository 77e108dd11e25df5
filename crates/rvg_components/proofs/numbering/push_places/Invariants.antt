use Rattle.std.proofs.Common.{◌≡◌, ◌++◌, map}
use Rattle.cert_types.specs.Views.{result_variable_of}
use Rattle.rvg_components.specs.Numbering.{places_of}
use Rattle.rvg_components.proofs.numbering.push_places.Given as goal

-- the places so far are appended
abbrev pub invariant-loop-position : goal.invariant-loop-position
invariant-loop-position l = map result_variable_of l.result_variables.items ≡ map result_variable_of l.initial.result_variables.items ++ places_of l.rule 1 l.position
