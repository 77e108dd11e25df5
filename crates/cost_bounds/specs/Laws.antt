-- What the answers on costs prove.
use Rattle.std.specs.Prelude.{◌≡◌, ℕ, List, [], ◌∷◌, ◌++◌, map}
use Rattle.std.specs.List.{All}
use Rattle.model.specs.Bounds.{IsBased}
use Rattle.model.specs.Facts.{HoldsCost}
use Rattle.model.specs.Programs.{Program}
use Rattle.its_model.specs.Valid.{IsValid}
use Rattle.cert_types.specs.cert_program.Setting.{setting_of}
use Rattle.cert_types.specs.cert_rules.Acceptance.{AcceptsLemmas, facts_of_lemmas}
use Rattle.cert_types.specs.cert_rules.AcceptsCosts.{node_cost}
use Rattle.cert_types.specs.cert_rules.Known.{Table}
use Rattle.cert_types.specs.cert_rules.Nodes.{CostNode}
use Rattle.outcome.specs.Reports.{NoSize}
use Rattle.bound_fixpoint.specs.Derivations.{Derivation, bounds_of, facts_of_derivation, number_in}
use Rattle.bound_fixpoint.specs.Keys.{over}
use Rattle.bound_fixpoint.specs.Needs.{lemmas_of}
use Rattle.bound_fixpoint.specs.Justification.{AreJustified}
use Rattle.cost_bounds.specs.CostLemmas.{cost_fact, cost_lemmas}
use Rattle.cost_bounds.specs.CostOutcomes.{CostOutcome, BoundedBy, NotBounded, IsCostOf}
use Rattle.cost_bounds.specs.CostReasons.{HasNoCostBound}

-- the bounds known with derivations, as a table
abbrev pub table_with : Program → List Derivation → Table
table_with p fs = over (bounds_of p fs)

-- the cost of the node's rule is bounded over a table, as the node certifies
abbrev pub IsBoundedCost : Program → ℕ → Table → CostNode → Type 0
IsBoundedCost p pivots tab node = IsCostOf p pivots tab node.rule (BoundedBy node.by)

-- after the lemmas of justified derivations the lemmas of costs that are bounded over these derivations are accepted,
-- and state the bounds of these costs; the earlier lemmas state what the derivations do
pub record BoundedCostsAreAccepted : Type 0 where
  pub accepted : (p : Program) (pivots : ℕ) (fs : List Derivation) (nodes : List CostNode) → IsValid p
      → AreJustified (setting_of p) fs → All (IsBoundedCost p pivots (table_with p fs)) nodes
      → AcceptsLemmas (setting_of p) (lemmas_of fs ++ cost_lemmas (setting_of p) (number_in fs) nodes)
  pub stated : (p : Program) (pivots : ℕ) (fs : List Derivation) (nodes : List CostNode) → IsValid p
      → AreJustified (setting_of p) fs → All (IsBoundedCost p pivots (table_with p fs)) nodes
      → facts_of_lemmas (setting_of p) (lemmas_of fs ++ cost_lemmas (setting_of p) (number_in fs) nodes)
      ≡ map facts_of_derivation fs ++ map (λ node. cost_fact (setting_of p) (table_with p fs) node ∷ []) nodes

-- a bound on a cost over what is known with justified derivations holds on all runs, and its bases are at least 1
pub record BoundedCostsHold : Type 0 where
  pub each : (p : Program) (pivots : ℕ) (fs : List Derivation) (node : CostNode) → IsValid p
      → AreJustified (setting_of p) fs
      → IsBoundedCost p pivots (table_with p fs) node
      → HoldsCost p node.rule (node_cost (setting_of p) (table_with p fs) node)
  pub based : (p : Program) (pivots : ℕ) (fs : List Derivation) (node : CostNode) → IsValid p
      → AreJustified (setting_of p) fs
      → IsBoundedCost p pivots (table_with p fs) node
      → IsBased (node_cost (setting_of p) (table_with p fs) node)

-- a rule has one outcome on its cost within a number of pivots, over one table
pub record CostAnswersAreOne : Type 0 where
  pub each : (p : Program) (pivots : ℕ) (tab : Table) (t : ℕ) (x y : CostOutcome)
      → IsCostOf p pivots tab t x → IsCostOf p pivots tab t y → x ≡ y

-- each reason why a cost isn't bounded is true of a valid program
pub record CostReasonsAreTrue : Type 0 where
  pub each : (p : Program) (pivots : ℕ) (tab : Table) (t : ℕ) (why : NoSize) → IsValid p
      → IsCostOf p pivots tab t (NotBounded why) → HasNoCostBound p pivots tab t why
