-- Nodes on costs, and their numbers.
use Rattle.std.specs.Prelude.{◌≡◌, ℕ, List, length, ⊤}
use Rattle.cert_types.specs.Views.{cost_by_of}
use Rattle.cert_types.specs.declared.proof.CostNode as code
use Rattle.cert_types.specs.cert_rules.Limits.{AreInLimit}
use Rattle.cert_types.specs.cert_rules.Nodes.{CostBy, EmptyCost, NeverCost, SideBoundCost, CostNode}
use Rattle.check_sizes.specs.SideBounds.{HasSideBoundNumbers}

-- a node on a cost, without its premises
abbrev pub cost_node : code.CostNode → CostNode
cost_node n = record { rule = n.rule; by = cost_by_of n.by }

-- there are multipliers for this many rows, within the limit
pub record AreRowMultipliers (rows : ℕ) (multipliers : List ℕ) : Type 0 where
  pub one_each : length multipliers ≡ rows
  pub within : AreInLimit multipliers

-- the numbers by which a cost is shown have the right shape for this many rows and left places
abbrev pub HasNumbersBy : ℕ → ℕ → CostBy → Type 0
HasNumbersBy rows left (EmptyCost multipliers) = AreRowMultipliers rows multipliers
HasNumbersBy rows left NeverCost = ⊤
HasNumbersBy rows left (SideBoundCost side_bound) = HasSideBoundNumbers rows left side_bound
