use Rattle.std.proofs.Common.{◌≡◌, map, take}
use Rattle.simplex_core.specs.linear_forms.Questions.{on_both}
use Rattle.lp_builder.proofs.costs.first_costs.Given as goal

-- the list has the costs of the parameters so far
abbrev pub invariant-loop-cost : goal.invariant-loop-cost
invariant-loop-cost l = l.first.items ≡ on_both (map (λ c. c.size) (take l.cost-index l.costs))
