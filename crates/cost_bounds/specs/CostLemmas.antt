-- The lemmas of costs that are bounded.
use Rattle.std.specs.Prelude.{ℕ, List, [], ◌∷◌, map}
use Rattle.model.specs.Facts.{Fact, Cost}
use Rattle.model.specs.Paths.{pre}
use Rattle.cert_types.specs.cert_rules.AcceptsCosts.{node_cost}
use Rattle.cert_types.specs.cert_rules.Checks.{needed_at_cost}
use Rattle.cert_types.specs.cert_rules.Known.{Table}
use Rattle.cert_types.specs.cert_rules.Nodes.{ResultVariable, CostBy, EmptyCost, NeverCost, SideBoundCost, CostNode}
use Rattle.cert_types.specs.cert_rules.Nodes.{Proof, CostBound}
use Rattle.cert_types.specs.cert_rules.Setting.{Setting}
use Rattle.bound_fixpoint.specs.Keys.{time_key}
use Rattle.bound_fixpoint.specs.Needs.{uses_for}

-- the keys of the bounds that a bound on a cost needs: none where the cost rows have no point; else the rule's time,
-- and then the sizes that the upper bound of one step reads
abbrev pub cost_premises : Setting → ℕ → CostBy → List ResultVariable
cost_premises s t (EmptyCost multipliers) = []
cost_premises s t NeverCost = time_key t ∷ []
cost_premises s t (SideBoundCost side_bound) = time_key t ∷ needed_at_cost s t side_bound (pre s.program t)

-- the node on the cost of a rule
abbrev pub cost_node : ℕ → CostBy → CostNode
cost_node t by = record { rule = t; by = by }

-- the lemma of a cost node, which cites the lemmas of its premises by these numbers
abbrev pub cost_lemma : Setting → (ℕ → ℕ → ℕ) → CostNode → Proof
cost_lemma s number node = CostBound node (uses_for number (cost_premises s node.rule node.by))

-- the lemmas of nodes, in order
abbrev pub cost_lemmas : Setting → (ℕ → ℕ → ℕ) → List CostNode → List Proof
cost_lemmas s number nodes = map (cost_lemma s number) nodes

-- the fact that the lemma of a cost node states over a table
abbrev pub cost_fact : Setting → Table → CostNode → Fact
cost_fact s tab node = Cost node.rule (node_cost s tab node)
