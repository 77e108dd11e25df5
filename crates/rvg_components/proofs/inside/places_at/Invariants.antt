use Rattle.std.proofs.Common.{◌≡◌, map, take}
use Rattle.cert_types.specs.Views.{result_variable_of}
use Rattle.rvg_components.specs.Listing.{result_variable_at}
use Rattle.rvg_components.proofs.inside.places_at.Given as goal

-- the list has the places of the numbers so far
abbrev pub invariant-loop-node : goal.invariant-loop-node
invariant-loop-node l = map result_variable_of l.places.items ≡ map (result_variable_at (map result_variable_of l.result_variables)) (take l.node-index l.nodes)
