-- What the analysis of a program is.
use Rattle.std.specs.Prelude.{◌≡◌, ℕ, List, length, map, Option, Some, None}
use Rattle.model.specs.Costs.{HasCost}
use Rattle.model.specs.Programs.{Program, arity_of}
use Rattle.outcome.specs.Reports.{Time, Timed, Untimed, Size, Sized, Unsized, RuleCost, Costed, Uncosted, Report, spendings}
use Rattle.cert_types.specs.cert_program.Setting.{setting_of}
use Rattle.cert_types.specs.cert_rules.AcceptsCosts.{stated_cost}
use Rattle.cert_types.specs.cert_rules.Nodes.{CostBy}
use Rattle.bound_fixpoint.specs.Derivations.{Derivation, bounds_of}
use Rattle.bound_fixpoint.specs.Keys.{Bounds, over}
use Rattle.bound_fixpoint.specs.Searches.{Searches, OfTime, OfSize}
use Rattle.bound_fixpoint.specs.Rounds.{IsLast, IsNoBound}
use Rattle.cost_bounds.specs.CostOutcomes.{BoundedBy, NotBounded, IsCostOf}
use Rattle.time_bounds.specs.Numbered.{EachNumbered}
use Rattle.time_bounds.specs.ProgramSearches.{searches_of_program}
use Rattle.time_bounds.specs.Totals.{total_of}

-- the entry of rule t's time follows from these derivations of the program: a time that is known with them, or the
-- reason why none is
abbrev pub IsTimeOf : Searches → Program → List Derivation → ℕ → Time → Type 0
IsTimeOf q p fs t (Timed b) = bounds_of p fs t 0 ≡ Some b
IsTimeOf q p fs t (Untimed why) = IsNoBound q (setting_of p) fs t 0 (OfTime why)

-- the same for each rule from rule k on, in order
abbrev pub AreTimesOf : Searches → Program → List Derivation → ℕ → List Time → Type 0
AreTimesOf q p fs k times = EachNumbered (IsTimeOf q p fs) k times

-- the entry of a place's size after a rule follows from these derivations: a size that is known with them, or the
-- reason why none is
abbrev pub IsSizeOf : Searches → Program → List Derivation → ℕ → ℕ → Size → Type 0
IsSizeOf q p fs t i (Sized b) = bounds_of p fs t i ≡ Some b
IsSizeOf q p fs t i (Unsized why) = IsNoBound q (setting_of p) fs t i (OfSize why)

-- the same for each place of rule t from i on, in order
abbrev pub AreSizesOf : Searches → Program → List Derivation → ℕ → ℕ → List Size → Type 0
AreSizesOf q p fs t i sizes = EachNumbered (IsSizeOf q p fs t) i sizes

-- the same for the places of each rule from rule t on, in order
abbrev pub AreSizeRowsOf : Searches → Program → List Derivation → ℕ → List (List Size) → Type 0
AreSizeRowsOf q p fs t rows = EachNumbered (λ u row. AreSizesOf q p fs u 1 row) t rows

-- the entry of the cost of rule t follows from known bounds: the rule has no cost and no entry; or the entry is the
-- bound that is composed of them, by its certificate; or it is the first reason why there is none
abbrev pub IsCostOver : Program → ℕ → Bounds → ℕ → Option RuleCost → Type 0
IsCostOver p pivots b t None = ¬ (HasCost p t)
IsCostOver p pivots b t (Some (Costed x)) =
    (by : CostBy) × IsCostOf p pivots (over b) t (BoundedBy by) × (x ≡ stated_cost (setting_of p) (over b) t by)
IsCostOver p pivots b t (Some (Uncosted why)) = IsCostOf p pivots (over b) t (NotBounded why)

-- the same for each rule from t on, in order
abbrev pub AreCostsOver : Program → ℕ → Bounds → ℕ → List (Option RuleCost) → Type 0
AreCostsOver p pivots b t costs = EachNumbered (IsCostOver p pivots b) t costs

-- the report is that of the last derivations of the rounds, over the searches of the program with this many pivots: for
-- each rule the known time, or why there is none; for each rule with a cost the bound on it over the known bounds, or
-- why there is none; for each place of its target the known size, or why there is none; and the rewritten sum of what
-- each rule spends at most, if all of this has a bound
pub record IsAnalysis (p : Program) (pivots : ℕ) (r : Report) : Type 0 where
  pub derivations : List Derivation
  pub last : IsLast (searches_of_program p pivots) (setting_of p) derivations
  pub one_each : length r.times ≡ length p.rules
  pub times : AreTimesOf (searches_of_program p pivots) p derivations 1 r.times
  pub cost_each : length r.costs ≡ length p.rules
  pub costs : AreCostsOver p pivots (bounds_of p derivations) 1 r.costs
  pub total : r.total ≡ total_of (spendings r.times r.costs)
  pub places : map length r.sizes ≡ map (λ rule. arity_of p rule.target) p.rules
  pub sizes : AreSizeRowsOf (searches_of_program p pivots) p derivations 1 r.sizes
