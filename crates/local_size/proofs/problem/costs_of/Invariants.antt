use Rattle.std.proofs.Common.{◌≡◌, nat_eq, if◌then◌else◌, map, take}
use Rattle.local_size.proofs.problem.costs_of.Given as goal

-- the costs are those of the places so far
abbrev pub invariant-loop-place : goal.invariant-loop-place
invariant-loop-place l = record {
  sizes : map (λ c. c.size) l.costs.items ≡ map (λ i. if nat_eq i 0 then 0 else 1) (take l.place-index l.places);
  heights : map (λ c. c.height) l.costs.items ≡ map (λ i. if nat_eq i 0 then 1 else 0) (take l.place-index l.places);
}
