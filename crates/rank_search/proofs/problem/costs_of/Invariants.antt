use Rattle.std.proofs.Common.{◌≡◌, false, nat_eq, if◌then◌else◌, map, take}
use Rattle.std.specs.Prelude.{slice_index_or}
use Rattle.rank_search.proofs.problem.costs_of.Given as goal

-- the costs are those of the coefficients so far
abbrev pub invariant-loop-c : goal.invariant-loop-c
invariant-loop-c l = record {
  sizes : map (λ c. c.size) l.costs.items
      ≡ map (λ c. if slice_index_or l.entered c.symbol false then (if nat_eq c.place 0 then 0 else 1) else 0)
      (take l.c-index l.coefficients);
  heights : map (λ c. c.height) l.costs.items
      ≡ map (λ c. if slice_index_or l.entered c.symbol false then (if nat_eq c.place 0 then 1 else 0) else 0)
      (take l.c-index l.coefficients);
}
