use Rattle.std.proofs.Common.{◌≡◌, map, take}
use Rattle.its_graph.specs.Groups.{items_of}
use Rattle.cert_types.specs.Views.{result_variable_of}
use Rattle.rvg_components.specs.Listing.{members_of, result_variable_at}
use Rattle.rvg_components.specs.Inside.{has_inside}
use Rattle.rvg_components.proofs.inside.placed.Given as goal

-- the components so far are listed with their flags
abbrev pub invariant-loop-nodes : goal.invariant-loop-nodes
invariant-loop-nodes l = record {
  members : map members_of l.found.items ≡ map (map (result_variable_at (map result_variable_of l.result_variables))) (map items_of (take l.nodes-index l.components));
  looping : map (λ c. c.looping) l.found.items ≡ map (has_inside l.own) (map items_of (take l.nodes-index l.components));
}
