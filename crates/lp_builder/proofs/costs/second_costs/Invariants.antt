use Rattle.std.proofs.Common.{◌≡◌, map, take}
use Rattle.simplex_core.specs.linear_forms.Questions.{on_plus}
use Rattle.lp_builder.proofs.costs.second_costs.Given as goal

-- the list has the costs of the parameters so far
abbrev pub invariant-loop-cost : goal.invariant-loop-cost
invariant-loop-cost l = l.second.items ≡ on_plus (map (λ c. c.height) (take l.cost-index l.costs))
