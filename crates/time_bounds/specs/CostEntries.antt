-- The entries of costs over a table, with the lemmas of those that have a bound.
use Rattle.std.specs.Prelude.{◌≡◌, ℕ, suc, List, [], ◌∷◌, ◌++◌, length, map, Option, Some, None}
use Rattle.std.specs.Option.{option_map}
use Rattle.model.specs.Costs.{HasCost}
use Rattle.model.specs.Programs.{Program}
use Rattle.bound_expr.specs.Views.{bound_of}
use Rattle.outcome.specs.Reports.{SizeHitLimit, SizeMissing, SizeUntimed, SizeLarge}
use Rattle.outcome.specs.Views.{cost_of, unbounded_of}
use Rattle.outcome.specs.declared.entry.CostEntry.{CostEntry}
use Rattle.outcome.specs.declared.entry.CostEntry.TheVariants as costs
use Rattle.cert_types.specs.Views.{result_variable_of}
use Rattle.cert_types.specs.cert_program.Setting.{setting_of}
use Rattle.cert_types.specs.cert_rules.AcceptsCosts.{stated_cost}
use Rattle.cert_types.specs.cert_rules.Nodes.{CostBy, CostNode, Proof}
use Rattle.bound_fixpoint.specs.Keys.{Bounds, over}
use Rattle.cost_bounds.specs.CostLemmas.{cost_lemma, cost_lemmas, cost_node}
use Rattle.cost_bounds.specs.CostOutcomes.{BoundedBy, NotBounded, IsCostOf}
use Rattle.time_bounds.specs.Analysis.{AreCostsOver}
use Rattle.time_bounds.specs.AnalysisLemmas.{AreCertified, CarryCosts}

-- the cost of rule t isn't bounded over known bounds, for the reason of an entry; no lemma was added
abbrev pub AddsNone : Program → ℕ → Bounds → ℕ → CostEntry → List Proof → List Proof → Type 0
AddsNone p pivots b t (costs.Known s) old new = ⊥
AddsNone p pivots b t (costs.UnboundedSide l) old new = IsCostOf p pivots (over b) t (NotBounded (unbounded_of l)) × (new ≡ old)
AddsNone p pivots b t (costs.OutOfLimits x) old new = IsCostOf p pivots (over b) t (NotBounded (SizeHitLimit x)) × (new ≡ old)
AddsNone p pivots b t (costs.Missing m) old new =
    IsCostOf p pivots (over b) t (NotBounded (SizeMissing (result_variable_of m))) × (new ≡ old)
AddsNone p pivots b t (costs.Untimed u) old new = IsCostOf p pivots (over b) t (NotBounded (SizeUntimed u)) × (new ≡ old)
AddsNone p pivots b t (costs.Large n) old new = IsCostOf p pivots (over b) t (NotBounded (SizeLarge n)) × (new ≡ old)

-- the entry of the cost of rule t over known bounds, by these numbers of lemmas; where it has a bound, its lemma was
-- added to those before, and the entry has its number
abbrev pub AddsCost : Program → ℕ → Bounds → (ℕ → ℕ → ℕ) → ℕ → Option CostEntry → List Proof → List Proof → Type 0
AddsCost p pivots b number t None old new = (¬ (HasCost p t)) × (new ≡ old)
AddsCost p pivots b number t (Some (costs.Known s)) old new = (by : CostBy) × IsCostOf p pivots (over b) t (BoundedBy by)
    × (bound_of s.bound ≡ stated_cost (setting_of p) (over b) t by)
    × (new ≡ old ++ cost_lemma (setting_of p) number (cost_node t by) ∷ []) × (s.lemma ≡ suc (length old))
AddsCost p pivots b number t (Some (costs.UnboundedSide l)) old new = AddsNone p pivots b t (costs.UnboundedSide l) old new
AddsCost p pivots b number t (Some (costs.OutOfLimits x)) old new = AddsNone p pivots b t (costs.OutOfLimits x) old new
AddsCost p pivots b number t (Some (costs.Missing m)) old new = AddsNone p pivots b t (costs.Missing m) old new
AddsCost p pivots b number t (Some (costs.Untimed u)) old new = AddsNone p pivots b t (costs.Untimed u) old new
AddsCost p pivots b number t (Some (costs.Large n)) old new = AddsNone p pivots b t (costs.Large n) old new

-- the entries of the costs of the first rules, in order; the lemmas of the costs that have a bound were appended to the
-- earlier ones, and the entries carry their numbers
pub record AreCostEntries (p : Program) (pivots : ℕ) (b : Bounds) (number : ℕ → ℕ → ℕ) (before : List Proof)
    (entries : List (Option CostEntry)) (lemmas : List Proof) : Type 0 where
  pub each : AreCostsOver p pivots b 1 (map (option_map cost_of) entries)
  pub certified : List CostNode
  pub are_certified : AreCertified p pivots b 1 (map (option_map cost_of) entries) certified
  pub lemmas_are : lemmas ≡ before ++ cost_lemmas (setting_of p) number certified
  pub carried : CarryCosts (length before) entries
