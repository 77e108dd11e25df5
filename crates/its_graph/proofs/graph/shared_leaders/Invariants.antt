use Rattle.std.proofs.Common.{◌≡◌, ◌∷◌, None, map, take}
use Rattle.its_graph.specs.Links.{shared_leader}
use Rattle.its_graph.proofs.graph.shared_leaders.Given as goal

-- The list has the leaders of the links so far.
abbrev pub invariant-loop-link : goal.invariant-loop-link
invariant-loop-link l = l.parts.items ≡ None ∷ map (shared_leader l.leaders) (take l.link-index l.links)
