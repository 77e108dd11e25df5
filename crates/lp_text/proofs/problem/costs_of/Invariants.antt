use Rattle.std.proofs.Common.{◌≡◌, map, take}
use Rattle.std.specs.Prelude.{pos}
use Rattle.lp_text.proofs.problem.costs_of.Given as goal

-- the numbers are the costs so far
abbrev pub invariant-loop-cost : goal.invariant-loop-cost
invariant-loop-cost l = l.numbers.items ≡ map pos (take l.cost-index l.costs)
