-- Rules with costs, and the prepared rows of their cost rules.
use Rattle.std.specs.Prelude.{◌≡◌, ℕ, Option, Some}
use Rattle.its_graph.specs.Graphs.{IsGraphOf}
use Rattle.its_model.specs.Valid.{IsValid}
use Rattle.guard_prep.specs.Prepared.{prepared}
use Rattle.guard_prep.specs.Views.{prepared_of}
use Rattle.guard_prep.specs.declared.rule_rows.RuleRows.{RuleRows}
use Rattle.model.specs.Costs.{HasCost, cost_rule}
use Rattle.model.specs.Programs.{Program}
use Rattle.model.specs.Terms.{Term}
use Rattle.cost_nodes.specs.declared.prepared_cost.PreparedCost.{PreparedCost}

-- a cost is written
abbrev pub IsWritten : Option Term → Type 0
IsWritten o = (k : Term) × (o ≡ Some k)

-- the prepared rows of the cost rule of a rule with a cost
pub record IsPreparedCostRule (p : Program) (t : ℕ) (m : RuleRows) : Type 0 where
  pub costs : HasCost p t
  pub same : prepared_of m ≡ prepared (cost_rule costs.rule costs.cost)

-- a valid program has this graph, and these are the rows of the cost rule of its rule with this number
pub record IsPreparedCost (p : Program) (c : PreparedCost) : Type 0 where
  pub valid : IsValid p
  pub graph : IsGraphOf c.graph.now p
  pub rows : IsPreparedCostRule p c.rule c.rows.now
