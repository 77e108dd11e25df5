-- When the nodes on the costs of rules are accepted.
use Rattle.std.specs.Prelude.{◌≡◌, ℕ, suc, true, Option, ⊤}
use Rattle.run_counting.specs.model.Costs.{HasCost}
use Rattle.run_counting.specs.model.Bounds.{Bound, Constant, ProductOf, MaximumOf}
use Rattle.run_counting.specs.model.Entries.{is_in}
use Rattle.run_counting.specs.model.Paths.{pre}
use Rattle.rule_forms.specs.linear_forms.Certificates.{Implies, minus_one}
use Rattle.cert_rules.specs.Nodes.{ResultVariable, SideBound, CostBy, EmptyCost, NeverCost, SideBoundCost, CostNode}
use Rattle.cert_rules.specs.Known.{IsKnown, known, is_zero_bound, Table}
use Rattle.cert_rules.specs.Composed.{both_parts, parts_for, sizes_after}
use Rattle.cert_rules.specs.ComposedSizes.{composed_side_bound, reads}
use Rattle.cert_rules.specs.Limits.{IsSmallComposed}
use Rattle.cert_rules.specs.Setting.{Setting, costs_of}
use Rattle.cert_rules.specs.AcceptsPlain.{AreMultipliers}
use Rattle.cert_rules.specs.AcceptsSizes.{Up, HasSideBoundShape, AcceptsSideBound, left_of}

-- the numbers that show a cost are right: multipliers for the cost rows, or the numbers of a side bound over them
abbrev pub HasCostNumbers : Setting → ℕ → CostBy → Type 0
HasCostNumbers s t (EmptyCost multipliers) = AreMultipliers (costs_of s) t multipliers
HasCostNumbers s t NeverCost = ⊤
HasCostNumbers s t (SideBoundCost side_bound) = HasSideBoundShape (costs_of s) t (left_of s.program t) side_bound

-- the shape of a node on a cost, checked before anything else
pub record HasCostShape (s : Setting) (node : CostNode) : Type 0 where
  pub cost : HasCost s.program node.rule
  pub numbers : HasCostNumbers s node.rule node.by

-- the only place of the target of a cost rule (the rule that leads to a rule's cost), which holds the cost
abbrev pub cost_result_variable : ℕ → ResultVariable
cost_result_variable t = record { rule = t; place = 1 }

-- a side bound of a cost is accepted: the cost rows imply that it is at least the cost, or the cost is its own
-- polynomial
abbrev pub AcceptsCostSideBound : Setting → ℕ → SideBound → Type 0
AcceptsCostSideBound s t side_bound = AcceptsSideBound (costs_of s) (cost_result_variable t) Up side_bound

-- after rule e each place that the side bound reads has a size
abbrev pub CostSideBoundHasSizes : Setting → Table → ℕ → SideBound → ℕ → Type 0
CostSideBoundHasSizes s table t side_bound e = (j : ℕ) → reads (s.cost_poly t) side_bound j ≡ true → IsKnown (table.size e (suc j))

-- a bound on what a step by the rule costs: the maximum, over the rules that can come before, of the side bound at the
-- sizes after them
abbrev pub step_cost_of : Setting → ℕ → SideBound → (ℕ → ℕ → Option Bound) → Bound
step_cost_of s t side_bound size =
    MaximumOf (parts_for (λ e. composed_side_bound (s.cost_poly t) side_bound (sizes_after size e)) (pre s.program t))

-- a bound on what all steps by the rule cost together: its time times the cost of a step
abbrev pub cost_of : Setting → ℕ → SideBound → (ℕ → Option Bound) → (ℕ → ℕ → Option Bound) → Bound
cost_of s t side_bound time size = ProductOf (both_parts (known (time t)) (step_cost_of s t side_bound size))

-- the cost that a side bound composes
abbrev pub side_bound_cost : Setting → Table → ℕ → SideBound → Bound
side_bound_cost s table t side_bound = cost_of s t side_bound table.time table.size

-- the rule never runs: its time is known, and it is 0
pub record HasZeroTime (table : Table) (t : ℕ) : Type 0 where
  pub time : IsKnown (table.time t)
  pub zero : is_zero_bound (known (table.time t)) ≡ true

-- a rule whose steps cost at most a side bound: the side bound is accepted, the rule has a time, each place that the
-- side bound reads has a size after each rule that can come before, and the composed bound is small
pub record AcceptsCostOfSideBound (s : Setting) (table : Table) (t : ℕ) (side_bound : SideBound) : Type 0 where
  pub up : AcceptsCostSideBound s t side_bound
  pub time : IsKnown (table.time t)
  pub sizes : (e : ℕ) → is_in e (pre s.program t) ≡ true → CostSideBoundHasSizes s table t side_bound e
  pub small : IsSmallComposed s.rewrite (side_bound_cost s table t side_bound)

-- the cost is shown: the cost rows, each times its multiplier, add up to -1, so that no step costs anything; the rule
-- never runs; or its steps cost at most a side bound
abbrev pub AcceptsCostBy : Setting → Table → ℕ → CostBy → Type 0
AcceptsCostBy s table t (EmptyCost multipliers) = Implies (s.cost_rows t) multipliers minus_one
AcceptsCostBy s table t NeverCost = HasZeroTime table t
AcceptsCostBy s table t (SideBoundCost side_bound) = AcceptsCostOfSideBound s table t side_bound

-- a node on a cost is accepted: the rule has a cost, the node's numbers have the right shape, and the cost is shown
pub record AcceptsCost (s : Setting) (table : Table) (node : CostNode) : Type 0 where
  pub shape : HasCostShape s node
  pub by : AcceptsCostBy s table node.rule node.by

-- the cost that is stated: the rewritten one that a side bound composes, and else 0
abbrev pub stated_cost : Setting → Table → ℕ → CostBy → Bound
stated_cost s table t (EmptyCost multipliers) = Constant 0
stated_cost s table t NeverCost = Constant 0
stated_cost s table t (SideBoundCost side_bound) = s.rewrite (side_bound_cost s table t side_bound)

-- the cost of a node's rule
abbrev pub node_cost : Setting → Table → CostNode → Bound
node_cost s table node = stated_cost s table node.rule node.by
