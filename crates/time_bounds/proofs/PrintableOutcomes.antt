-- The outcome of an analysis can be printed.
use Rattle.std.proofs.Common.{◌≡◌, ℕ, suc, List, [], ◌∷◌, length, map, Option, Some, None, sym, subst, All}
use Rattle.std.specs.Prelude.{Vec}
use Rattle.std.specs.Option.{option_map}
use Rattle.std.specs.declared.alloc.Global.{Global}
use Rattle.std.proofs.lemmas.List.Elements.{All-nil, All-cons}
use Rattle.model.specs.Programs.{Program}
use Rattle.model.specs.Bounds.{Bound}
use Rattle.its_model.specs.Valid.{IsValid}
use Rattle.bound_expr.specs.Views.{bound_of}
use Rattle.bound_expr.specs.declared.bound.Bound as code
use Rattle.cert_types.specs.declared.gap.Gap.{Gap}
use Rattle.outcome.specs.Reports as reports
use Rattle.outcome.specs.Reports.{Timed, Untimed, RuleCost, Costed, Uncosted, spendings, spent_in}
use Rattle.outcome.specs.Views.{time_of, cost_of, size_of, report_of}
use Rattle.outcome.specs.Printing.{IsPrintableTime, IsPrintableCost, IsPrintableSize, IsPrintableTotal, HasItsGap, IsPrintableOutcome}
use Rattle.outcome.specs.declared.entry.CostEntry.{CostEntry}
use Rattle.outcome.specs.declared.entry.CostEntry.TheVariants as costs
use Rattle.outcome.specs.declared.entry.TimeEntry.{TimeEntry}
use Rattle.outcome.specs.declared.entry.TimeEntry.TheVariants as entries
use Rattle.outcome.specs.declared.entry.SizeEntry.{SizeEntry}
use Rattle.outcome.specs.declared.entry.SizeEntry.TheVariants as sizes
use Rattle.outcome.specs.declared.outcome_of.Outcome.{Outcome}
use Rattle.cert_types.specs.cert_program.Setting.{setting_of}
use Rattle.cert_types.specs.cert_rules.AcceptsCosts.{stated_cost}
use Rattle.cert_types.specs.cert_rules.Nodes.{CostBy}
use Rattle.bound_fixpoint.specs.Derivations.{Derivation, bounds_of}
use Rattle.bound_fixpoint.specs.Keys.{over}
use Rattle.bound_fixpoint.specs.Searches.{Searches}
use Rattle.cost_bounds.specs.CostOutcomes.{BoundedBy, IsCostOf}
use Rattle.time_bounds.specs.ProgramSearches.{searches_of_program}
use Rattle.time_bounds.specs.Totals.{total_of}
use Rattle.time_bounds.specs.Analysis.{IsTimeOf, AreTimesOf, IsSizeOf, AreSizesOf, AreSizeRowsOf, IsCostOver, AreCostsOver, IsAnalysis}
use Rattle.time_bounds.specs.PrintableLaws.{IsPrintableBound, ArePrintableBounds, ArePrintable}
use Rattle.time_bounds.proofs.Printables.{derivations_printable, costs_printable, total_printable}

-- each bound on a cost over these bounds is printable
abbrev AreCostsPrintable : ℕ → Program → ℕ → List Derivation → Type 0
AreCostsPrintable n p pivots fs = (t : ℕ) (by : CostBy) → IsCostOf p pivots (over (bounds_of p fs)) t (BoundedBy by)
    → IsPrintableBound n (stated_cost (setting_of p) (over (bounds_of p fs)) t by)

-- the bounds on what rules spend, over printable bounds, are printable
module _ (n : ℕ) (q : Searches) (p : Program) (pivots : ℕ) (fs : List Derivation) (good : ArePrintableBounds n (bounds_of p fs))
    (costed : AreCostsPrintable n p pivots fs) where
  spent_printable : (k : ℕ) (x : reports.Time) (c : Option RuleCost) (rest : List (Option Bound)) → IsTimeOf q p fs k x
      → IsCostOver p pivots (bounds_of p fs) k c → ArePrintable n rest → ArePrintable n (spent_in x c ∷ rest)
  spent_printable k (Timed b) None rest h g more = (good.each k 0 b h, more)
  spent_printable k (Untimed why) None rest h g more = more
  spent_printable k x (Some (Costed b)) rest h g more =
      (subst (IsPrintableBound n) (sym g.2) (costed k g.0 g.1), more)
  spent_printable k x (Some (Uncosted why)) rest h g more = more

  said_printable : (k : ℕ) (times : List reports.Time) (costs : List (Option RuleCost)) → AreTimesOf q p fs k times
      → AreCostsOver p pivots (bounds_of p fs) k costs → ArePrintable n (spendings times costs)
  said_printable k [] costs h g = tt
  said_printable k (x ∷ times) [] h g = tt
  said_printable k (x ∷ times) (c ∷ costs) h g =
      spent_printable k x c (spendings times costs) h.0 g.0 (said_printable (suc k) times costs h.1 g.1)

  -- the entries of costs are printable
  cost_entry_printable : (k : ℕ) (x : Option CostEntry) → IsCostOver p pivots (bounds_of p fs) k (option_map cost_of x)
      → IsPrintableCost n x
  cost_entry_printable k None h = tt
  cost_entry_printable k (Some (costs.Known s)) h = subst (IsPrintableBound n) (sym h.2) (costed k h.0 h.1)
  cost_entry_printable k (Some (costs.UnboundedSide l)) h = tt
  cost_entry_printable k (Some (costs.OutOfLimits x)) h = tt
  cost_entry_printable k (Some (costs.Missing m)) h = tt
  cost_entry_printable k (Some (costs.Untimed t)) h = tt
  cost_entry_printable k (Some (costs.Large m)) h = tt

  cost_entries_printable : (k : ℕ) (xs : List (Option CostEntry)) → AreCostsOver p pivots (bounds_of p fs) k (map (option_map cost_of) xs)
      → All (IsPrintableCost n) xs
  cost_entries_printable k [] h = All-nil (IsPrintableCost n)
  cost_entries_printable k (x ∷ xs) h =
      All-cons (IsPrintableCost n) x xs (cost_entry_printable k x h.0) (cost_entries_printable (suc k) xs h.1)

-- the entries of times are printable
entry_printable : (n : ℕ) (q : Searches) (p : Program) (fs : List Derivation) → ArePrintableBounds n (bounds_of p fs) → (k : ℕ)
    (gaps : List Gap) (x : TimeEntry) → IsTimeOf q p fs k (time_of gaps x) → IsPrintableTime n x
entry_printable n q p fs good k gaps (entries.Known s) h = good.each k 0 (bound_of s.bound) h
entry_printable n q p fs good k gaps (entries.Gap g) h = tt
entry_printable n q p fs good k gaps (entries.OutOfLimits x) h = tt
entry_printable n q p fs good k gaps (entries.Large m) h = tt

entries_printable : (n : ℕ) (q : Searches) (p : Program) (fs : List Derivation) → ArePrintableBounds n (bounds_of p fs) → (k : ℕ)
    (gaps : List Gap) (times : List TimeEntry) → AreTimesOf q p fs k (map (time_of gaps) times)
    → All (IsPrintableTime n) times
entries_printable n q p fs good k gaps [] h = All-nil (IsPrintableTime n)
entries_printable n q p fs good k gaps (x ∷ times) h =
    All-cons (IsPrintableTime n) x times (entry_printable n q p fs good k gaps x h.0)
    (entries_printable n q p fs good (suc k) gaps times h.1)

-- the entries of sizes of the places of a rule are printable
place_printable : (n : ℕ) (q : Searches) (p : Program) (fs : List Derivation) → ArePrintableBounds n (bounds_of p fs) → (t i : ℕ) (x : SizeEntry)
    → IsSizeOf q p fs t i (size_of x) → IsPrintableSize n x
place_printable n q p fs good t i (sizes.Known s) h = good.each t i (bound_of s.bound) h
place_printable n q p fs good t i (sizes.UnboundedSide l) h = tt
place_printable n q p fs good t i (sizes.OutOfLimits x) h = tt
place_printable n q p fs good t i (sizes.Missing s) h = tt
place_printable n q p fs good t i (sizes.Nonlinear s) h = tt
place_printable n q p fs good t i (sizes.Untimed u) h = tt
place_printable n q p fs good t i (sizes.Large m) h = tt

places_printable : (n : ℕ) (q : Searches) (p : Program) (fs : List Derivation) → ArePrintableBounds n (bounds_of p fs) → (t i : ℕ)
    (xs : List SizeEntry) → AreSizesOf q p fs t i (map size_of xs) → All (IsPrintableSize n) xs
places_printable n q p fs good t i [] h = All-nil (IsPrintableSize n)
places_printable n q p fs good t i (x ∷ xs) h =
    All-cons (IsPrintableSize n) x xs (place_printable n q p fs good t i x h.0)
    (places_printable n q p fs good t (suc i) xs h.1)

-- the entries of sizes of all rules are printable
abbrev IsPrintableRow : ℕ → Vec SizeEntry Global → Type 0
IsPrintableRow n places = All (IsPrintableSize n) places.items

rows_printable : (n : ℕ) (q : Searches) (p : Program) (fs : List Derivation) → ArePrintableBounds n (bounds_of p fs) → (t : ℕ)
    (rows : List (Vec SizeEntry Global)) → AreSizeRowsOf q p fs t (map (λ places. map size_of places.items) rows)
    → All (IsPrintableRow n) rows
rows_printable n q p fs good t [] h = All-nil (IsPrintableRow n)
rows_printable n q p fs good t (row ∷ rows) h =
    All-cons (IsPrintableRow n) row rows (places_printable n q p fs good t 1 row.items h.0)
    (rows_printable n q p fs good (suc t) rows h.1)

-- the outcome of the analysis of a valid program can be printed, if the gaps that its times name exist
pub analysis_printable : (p : Program) (pivots : ℕ) (o : Outcome) → IsValid p
    → IsAnalysis p pivots (report_of o) → All (HasItsGap (length o.gaps.items)) o.times.items
    → IsPrintableOutcome (length p.start_names) o
analysis_printable p pivots o valid h gaps = record {
  times = entries_printable n q p h.derivations good 1 o.gaps.items o.times.items h.times;
  gaps = gaps;
  costs = cost_entries_printable n q p pivots h.derivations good costed 1 o.costs.items h.costs;
  total = total o.total h.total;
  sizes = rows_printable n q p h.derivations good 1 o.sizes.items h.sizes;
}
  where
    n : ℕ
    n = length p.start_names

    q : Searches
    q = searches_of_program p pivots

    good : ArePrintableBounds n (bounds_of p h.derivations)
    good = derivations_printable p pivots h.derivations valid h.last.made

    costed : AreCostsPrintable n p pivots h.derivations
    costed t by is = costs_printable p pivots h.derivations t by valid h.last.made is

    bounds : List (Option Bound)
    bounds = spendings (report_of o).times (report_of o).costs

    total : (x : Option code.Bound) → option_map bound_of x ≡ total_of bounds → IsPrintableTotal n x
    total None e = tt
    total (Some b) e =
        total_printable n bounds (bound_of b)
        (said_printable n q p pivots h.derivations good costed 1 (report_of o).times (report_of o).costs h.times h.costs) (sym e)
