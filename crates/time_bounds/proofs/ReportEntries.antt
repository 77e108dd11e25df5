-- The outcome of an analysis meets the definition of its report.
use Rattle.std.proofs.Common.{◌≡◌, ◌↔◌, ◌⊎◌, inl, inr, ℕ, zero, suc, ◌+◌, ◌<◌, ◌≤◌, false, List, [], ◌∷◌, length, map, Option, Some}
use Rattle.std.proofs.Common.{None, refl, sym, ◌∙◌, ap}
use Rattle.std.proofs.Common.{subst, arith}
use Rattle.std.specs.Prelude.{slice_get, slice_index_or, IsTrue, IsSome, is_some}
use Rattle.std.specs.List.{list_all}
use Rattle.std.specs.Option.{option_map}
use Rattle.model.specs.Bounds.{Bound, Parts, IsBased, val}
use Rattle.model.specs.Costs.{HasCost}
use Rattle.model.specs.Facts.{Holds, HoldsTime, HoldsSize, HoldsCost, HoldsTotal}
use Rattle.model.specs.Programs.{Program, Rule, rule_at}
use Rattle.model.specs.Runs.{sizes_of_start}
use Rattle.model.specs.Terms.{Term}
use Rattle.model.proofs.Cases.{some_same}
use Rattle.model.proofs.CostLaws.{plain_spend}
use Rattle.its_model.specs.Valid.{IsValid}
use Rattle.outcome.specs.Reports.{Time, Timed, Untimed, Size, Sized, RuleCost, Costed, Uncosted, Report, spendings, spent_in}
use Rattle.outcome.specs.Holding.{IsReportOn, ReportHolds, numbered_entry, place_entry}
use Rattle.outcome.specs.Views.{time_of, cost_of}
use Rattle.outcome.specs.declared.entry.CostEntry.{CostEntry}
use Rattle.outcome.specs.declared.entry.CostEntry.TheVariants as costs
use Rattle.outcome.specs.declared.entry.TimeEntry.{TimeEntry}
use Rattle.outcome.specs.declared.entry.TimeEntry.TheVariants as entries
use Rattle.cert_types.specs.declared.gap.Gap.{Gap}
use Rattle.cert_types.specs.cert_program.Setting.{setting_of}
use Rattle.cert_types.proofs.cert_program.Faithful.{settings-faithful}
use Rattle.cert_types.specs.cert_rules.AcceptsPlain.{IsRule}
use Rattle.bound_fixpoint.specs.Keys.{Bounds, place_fact}
use Rattle.bound_fixpoint.specs.Derivations.{Derivation, bounds_of}
use Rattle.bound_fixpoint.specs.Searches.{Searches}
use Rattle.bound_fixpoint.specs.Justification.{AreJustified}
use Rattle.bound_fixpoint.proofs.JustificationLaws.{hold, time_based}
use Rattle.cost_bounds.specs.CostLemmas.{cost_node}
use Rattle.cost_bounds.proofs.CostLemmas.{bounded-hold}
use Rattle.time_bounds.specs.ProgramSearches.{searches_of_program}
use Rattle.time_bounds.specs.Totals.{spent_by, spendings_by, before, known_parts, total_of}
use Rattle.time_bounds.specs.Laws.{SpendingsHold}
use Rattle.time_bounds.specs.Analysis.{IsTimeOf, AreTimesOf, IsSizeOf, AreSizesOf, AreSizeRowsOf, IsCostOver, AreCostsOver, IsAnalysis}
use Rattle.time_bounds.proofs.CostEntries.{joined}
use Rattle.bound_fixpoint.proofs.SizesAreJustified.{all_justified}
use Rattle.time_bounds.proofs.OneProgram.{program_searches_one}
use Rattle.time_bounds.proofs.RightSizings.{program_searches_right}
use Rattle.time_bounds.proofs.RuleNumbers.{rule_there}
use Rattle.time_bounds.proofs.TotalSteps.{totals_hold}

-- what a rule spends by its entries is what it spends by the report
spent_alike : (gaps : List Gap) (e : TimeEntry) (c : Option CostEntry) → spent_in (time_of gaps e) (option_map cost_of c) ≡ spent_by e c
spent_alike gaps (entries.Known s) None = refl
spent_alike gaps (entries.Gap g) None = refl
spent_alike gaps (entries.OutOfLimits t) None = refl
spent_alike gaps (entries.Large n) None = refl
spent_alike gaps e (Some (costs.Known s)) = refl
spent_alike gaps e (Some (costs.UnboundedSide l)) = refl
spent_alike gaps e (Some (costs.OutOfLimits x)) = refl
spent_alike gaps e (Some (costs.Missing m)) = refl
spent_alike gaps e (Some (costs.Untimed t)) = refl
spent_alike gaps e (Some (costs.Large n)) = refl

pub spendings_alike : (gaps : List Gap) (times : List TimeEntry) (cs : List (Option CostEntry))
    → spendings (map (time_of gaps) times) (map (option_map cost_of) cs) ≡ spendings_by times cs
spendings_alike gaps [] cs = refl
spendings_alike gaps (e ∷ times) [] = refl
spendings_alike gaps (e ∷ times) (c ∷ cs) = λ i. spent_alike gaps e c i ∷ spendings_alike gaps times cs i

-- there is a total exactly where what each rule spends has a bound
some_mapped : {A B : Type 0} (f : A → B) (o : Option A) → is_some (option_map f o) ≡ is_some o
some_mapped f None = refl
some_mapped f (Some a) = refl

all_known : (os : List (Option Bound)) → list_all is_some os ≡ is_some (known_parts os)
all_known [] = refl
all_known (Some b ∷ os) = all_known os ∙ sym (kept (known_parts os))
  where
    kept : (o : Option Parts) → is_some (before (Some b) o) ≡ is_some o
    kept None = refl
    kept (Some bs) = refl
all_known (None ∷ os) = refl

total_known : (os : List (Option Bound)) → IsTrue (list_all is_some os) ↔ IsSome (total_of os)
total_known os =
    let e = all_known os ∙ sym (some_mapped _ (known_parts os)) in
    (λ h. sym e ∙ h, λ h. e ∙ h)

-- the entry of each rule follows from the derivations
pub said_at : (q : Searches) (p : Program) (fs : List Derivation) (k : ℕ) (times : List Time) (i : ℕ) (x : Time) → AreTimesOf q p fs k times
    → slice_get times i ≡ Some x → IsTimeOf q p fs (k + i) x
said_at q p fs k [] i x h e = absurd (let f : ⊥ = cc in f)
said_at q p fs k (y ∷ times) zero x h e =
    let same : y ≡ x = cc in
    subst (λ (n : ℕ). IsTimeOf q p fs n x) (let z : k ≡ k + 0 = omega arith in z) (subst (λ (z : Time). IsTimeOf q p fs k z) same h.0)
said_at q p fs k (y ∷ times) (suc i) x h e =
    subst (λ (n : ℕ). IsTimeOf q p fs n x) (let z : suc k + i ≡ k + suc i = omega arith in z) (said_at q p fs (suc k) times i x h.1 e)

-- the entry of each place of a rule, and of each rule's places, follows from them
pub size_said_at : (q : Searches) (p : Program) (fs : List Derivation) (t k : ℕ) (sizes : List Size) (i : ℕ) (x : Size)
    → AreSizesOf q p fs t k sizes → slice_get sizes i ≡ Some x → IsSizeOf q p fs t (k + i) x
size_said_at q p fs t k [] i x h e = absurd (let f : ⊥ = cc in f)
size_said_at q p fs t k (y ∷ sizes) zero x h e =
    let same : y ≡ x = cc in
    subst (λ (n : ℕ). IsSizeOf q p fs t n x) (let z : k ≡ k + 0 = omega arith in z)
    (subst (λ (s : Size). IsSizeOf q p fs t k s) same h.0)
size_said_at q p fs t k (y ∷ sizes) (suc i) x h e =
    subst (λ (n : ℕ). IsSizeOf q p fs t n x) (let z : suc k + i ≡ k + suc i = omega arith in z)
    (size_said_at q p fs t (suc k) sizes i x h.1 e)

pub row_said_at : (q : Searches) (p : Program) (fs : List Derivation) (k : ℕ) (rows : List (List Size)) (t : ℕ) (row : List Size)
    → AreSizeRowsOf q p fs k rows → slice_get rows t ≡ Some row → AreSizesOf q p fs (k + t) 1 row
row_said_at q p fs k [] t row h e = absurd (let f : ⊥ = cc in f)
row_said_at q p fs k (y ∷ rows) zero row h e =
    let same : y ≡ row = cc in
    subst (λ (n : ℕ). AreSizesOf q p fs n 1 row) (let z : k ≡ k + 0 = omega arith in z)
    (subst (λ (s : List Size). AreSizesOf q p fs k 1 s) same h.0)
row_said_at q p fs k (y ∷ rows) (suc t) row h e =
    subst (λ (n : ℕ). AreSizesOf q p fs n 1 row) (let z : suc k + t ≡ k + suc t = omega arith in z)
    (row_said_at q p fs (suc k) rows t row h.1 e)

-- the entry of each rule's cost follows from them
pub cost_said_at : (p : Program) (pivots : ℕ) (d : Bounds) (k : ℕ) (cs : List (Option RuleCost)) (i : ℕ) (x : Option RuleCost)
    → AreCostsOver p pivots d k cs → slice_get cs i ≡ Some x → IsCostOver p pivots d (k + i) x
cost_said_at p pivots d k [] i x h e = absurd (let f : ⊥ = cc in f)
cost_said_at p pivots d k (y ∷ cs) zero x h e =
    let same : y ≡ x = cc in
    subst (λ (n : ℕ). IsCostOver p pivots d n x) (let z : k ≡ k + 0 = omega arith in z)
    (subst (λ (z : Option RuleCost). IsCostOver p pivots d k z) same h.0)
cost_said_at p pivots d k (y ∷ cs) (suc i) x h e =
    subst (λ (n : ℕ). IsCostOver p pivots d n x) (let z : suc k + i ≡ k + suc i = omega arith in z)
    (cost_said_at p pivots d (suc k) cs i x h.1 e)

-- the bound on what a rule spends is that of its cost, or the time of a rule without a cost
abbrev BoundsSpending : List Time → List (Option RuleCost) → ℕ → Bound → Type 0
BoundsSpending times cs i b = ((slice_get cs i ≡ Some None) × (slice_get times i ≡ Some (Timed b)))
    ⊎ (slice_get cs i ≡ Some (Some (Costed b)))

-- each known bound of a list bounds what the rule at its position spends
known_at : (times : List Time) (cs : List (Option RuleCost)) (i : ℕ) (b : Bound)
    → slice_index_or (spendings times cs) i None ≡ Some b → BoundsSpending times cs i b
known_at [] cs i b e = absurd (let f : ⊥ = cc in f)
known_at (x ∷ times) [] i b e = absurd (let f : ⊥ = cc in f)
known_at (Timed c ∷ times) (None ∷ cs) zero b e =
    let same : c ≡ b = cc in inl (refl, ap (λ (x : Bound). Some (Timed x)) same)
known_at (Untimed w ∷ times) (None ∷ cs) zero b e = absurd (let f : ⊥ = cc in f)
known_at (x ∷ times) (Some (Costed c) ∷ cs) zero b e =
    let same : c ≡ b = cc in inr (ap (λ (y : Bound). Some (Some (Costed y))) same)
known_at (x ∷ times) (Some (Uncosted w) ∷ cs) zero b e = absurd (let f : ⊥ = cc in f)
known_at (x ∷ times) (c ∷ cs) (suc i) b e = known_at times cs i b e

-- there are as many bounds as entries
spendings_long : (times : List Time) (cs : List (Option RuleCost)) → length times ≡ length cs → length (spendings times cs) ≡ length times
spendings_long [] cs e = refl
spendings_long (x ∷ times) [] e = absurd (omega (arith, e))
spendings_long (x ∷ times) (c ∷ cs) e = ap suc (spendings_long times cs (omega (arith, e)))

-- there is an entry of a rule's cost exactly if the rule has a cost
cost_there : (p : Program) (pivots : ℕ) (d : Bounds) (t : ℕ) (r : Rule) → rule_at p t ≡ Some r → (c : Option RuleCost)
    → IsCostOver p pivots d t c → is_some c ≡ is_some r.cost
cost_there p pivots d t r numbered None h = go r.cost refl
  where
    go : (o : Option Term) → r.cost ≡ o → false ≡ is_some o
    go None e = refl
    go (Some k) e = absurd (h (record { rule = r; numbered = numbered; cost = k; written = e }))
cost_there p pivots d t r numbered (Some c) h = sym (ap is_some (written c h))
  where
    of : (k : HasCost p t) → r.cost ≡ Some k.cost
    of k = ap (λ (x : Rule). x.cost) (some_same r k.rule (sym numbered ∙ k.numbered)) ∙ k.written

    has : (c : RuleCost) → IsCostOver p pivots d t (Some c) → HasCost p t
    has (Costed b) g = g.1.costs
    has (Uncosted w) g = g.costs

    written : (c : RuleCost) → (g : IsCostOver p pivots d t (Some c)) → r.cost ≡ Some (has c g).cost
    written c g = of (has c g)

-- the same for the rules from a position on
costs_there : (p : Program) (pivots : ℕ) (d : Bounds) (k : ℕ) (rs : List Rule) → ((i : ℕ) (r : Rule) → slice_get rs i ≡ Some r
    → rule_at p (k + i) ≡ Some r) → (cs : List (Option RuleCost)) → length cs ≡ length rs → AreCostsOver p pivots d k cs
    → map is_some cs ≡ map (λ rule. is_some rule.cost) rs
costs_there p pivots d k [] at [] e h = refl
costs_there p pivots d k [] at (c ∷ cs) e h = absurd (omega (arith, e))
costs_there p pivots d k (r ∷ rs) at [] e h = absurd (omega (arith, e))
costs_there p pivots d k (r ∷ rs) at (c ∷ cs) e h =
    joined (is_some c) (is_some r.cost) (map is_some cs) (map (λ rule. is_some rule.cost) rs)
    (cost_there p pivots d k r (subst (λ (n : ℕ). rule_at p n ≡ Some r) (let z : k + 0 ≡ k = omega arith in z) (at 0 r refl)) c h.0)
    (costs_there p pivots d (suc k) rs
    (λ i x f. subst (λ (n : ℕ). rule_at p n ≡ Some x) (let z : k + suc i ≡ suc k + i = omega arith in z) (at (suc i) x f)) cs
    (omega (arith, e)) h.1)

-- a time of a rule without a cost bounds what it spends
plain_spending : (p : Program) (t : ℕ) (r : Rule) (b : Bound) → rule_at p t ≡ Some r → ¬ (HasCost p t) → HoldsTime p t b → HoldsCost p t b
plain_spending p t r b numbered plain h = record {
  each = λ start steps c run.
      subst (λ (n : ℕ). n ≤ val b (sizes_of_start start)) (sym (plain_spend.each p t r numbered (free r.cost refl) start steps))
      (h.each start steps c run);
}
  where
    free : (o : Option Term) → r.cost ≡ o → r.cost ≡ None
    free None e = e
    free (Some k) e = absurd (plain (record { rule = r; numbered = numbered; cost = k; written = e }))

module _ (p : Program) (pivots : ℕ) (valid : IsValid p) (r : Report) (h : IsAnalysis p pivots r) where
  stand : AreJustified (setting_of p) h.derivations
  stand =
      all_justified (searches_of_program p pivots) (setting_of p) (program_searches_right.each p pivots valid)
      (program_searches_one.each p pivots) h.derivations h.last.made

  -- each bound known with the derivations holds
  known_holds : (t i : ℕ) (b : Bound) → bounds_of p h.derivations t i ≡ Some b → Holds p (place_fact t i b)
  known_holds t i b e = hold.each (setting_of p) (settings-faithful.each p valid) h.derivations stand t i b e

  timed_at : (i : ℕ) (b : Bound) → slice_get r.times i ≡ Some (Timed b) → bounds_of p h.derivations (suc i) 0 ≡ Some b
  timed_at i b e =
      ap (λ (n : ℕ). bounds_of p h.derivations n 0) (let z : suc i ≡ 1 + i = omega arith in z)
      ∙ said_at (searches_of_program p pivots) p h.derivations 1 r.times i (Timed b) h.times e

  sized_at : (k j : ℕ) (row : List Size) (b : Bound) → slice_get r.sizes k ≡ Some row → slice_get row j ≡ Some (Sized b)
      → bounds_of p h.derivations (suc k) (suc j) ≡ Some b
  sized_at k j row b e f =
      let one : (n : ℕ) → suc n ≡ 1 + n = λ n. omega arith in
      let said = row_said_at (searches_of_program p pivots) p h.derivations 1 r.sizes k row h.sizes e in
      ap (λ (n : ℕ). bounds_of p h.derivations n (suc j)) (one k)
      ∙ (ap (λ (n : ℕ). bounds_of p h.derivations (1 + k) n) (one j)
      ∙ size_said_at (searches_of_program p pivots) p h.derivations (1 + k) 1 row j (Sized b) said f)

  -- the entry of a rule's cost
  pub costed_at : (i : ℕ) (x : Option RuleCost) → slice_get r.costs i ≡ Some x
      → IsCostOver p pivots (bounds_of p h.derivations) (suc i) x
  costed_at i x e =
      subst (λ (n : ℕ). IsCostOver p pivots (bounds_of p h.derivations) n x) (let z : 1 + i ≡ suc i = omega arith in z)
      (cost_said_at p pivots (bounds_of p h.derivations) 1 r.costs i x h.costs e)

  -- a bound on a cost holds
  cost_holds : (i : ℕ) (b : Bound) → slice_get r.costs i ≡ Some (Some (Costed b)) → HoldsCost p (suc i) b
  cost_holds i b e =
      let is = costed_at i (Some (Costed b)) e in
      subst (HoldsCost p (suc i)) (sym is.2)
      (bounded-hold.each p pivots h.derivations (cost_node (suc i) is.0) valid stand is.1)

  cost_based : (i : ℕ) (b : Bound) → slice_get r.costs i ≡ Some (Some (Costed b)) → IsBased b
  cost_based i b e =
      let is = costed_at i (Some (Costed b)) e in
      subst IsBased (sym is.2) (bounded-hold.based p pivots h.derivations (cost_node (suc i) is.0) valid stand is.1)

  -- there are as many bounds on what rules spend as rules
  spendings_each : length (spendings r.times r.costs) ≡ length p.rules
  spendings_each = spendings_long r.times r.costs (h.one_each ∙ sym h.cost_each) ∙ h.one_each

  spendings_hold : SpendingsHold p (spendings r.times r.costs)
  spendings_hold = record {
    one_each = spendings_each;
    holds = λ i b l e. holds i b l (known_at r.times r.costs i b e);
    based = λ i b l e. based i b l (known_at r.times r.costs i b e);
  }
    where
      rule : (i : ℕ) → i < length (spendings r.times r.costs) → IsRule p (suc i)
      rule i l = rule_there p i (omega (arith, l, spendings_each))

      holds : (i : ℕ) (b : Bound) → i < length (spendings r.times r.costs) → BoundsSpending r.times r.costs i b → HoldsCost p (suc i) b
      holds i b l (inl (plain, e)) =
          plain_spending p (suc i) (rule i l).rule b (rule i l).numbered (costed_at i None plain)
          (known_holds (suc i) 0 b (timed_at i b e))
      holds i b l (inr e) = cost_holds i b e

      based : (i : ℕ) (b : Bound) → i < length (spendings r.times r.costs) → BoundsSpending r.times r.costs i b → IsBased b
      based i b l (inl (plain, e)) =
          time_based (setting_of p) (settings-faithful.each p valid) h.derivations stand (suc i) b (rule i l) (timed_at i b e)
      based i b l (inr e) = cost_based i b e

  -- each bound of the report holds
  pub report_holds : ReportHolds p r
  report_holds = record { times = times; costs = costs; total = total; sizes = sizes }
    where
      times : (t : ℕ) (b : Bound) → numbered_entry r.times t ≡ Some (Timed b) → HoldsTime p t b
      times zero b e = absurd (let f : ⊥ = cc in f)
      times (suc i) b e = known_holds (suc i) 0 b (timed_at i b e)

      costs : (t : ℕ) (b : Bound) → numbered_entry r.costs t ≡ Some (Some (Costed b)) → HoldsCost p t b
      costs zero b e = absurd (let f : ⊥ = cc in f)
      costs (suc i) b e = cost_holds i b e

      total : (b : Bound) → r.total ≡ Some b → HoldsTotal p b
      total b e = totals_hold.each p (spendings r.times r.costs) b spendings_hold (sym h.total ∙ e)

      place : (k i : ℕ) (b : Bound) (o : Option (List Size)) → slice_get r.sizes k ≡ o → place_entry o i ≡ Some (Sized b)
          → HoldsSize p (suc k) i b
      place k i b None e f = absurd (let none : ⊥ = cc in none)
      place k zero b (Some row) e f = absurd (let none : ⊥ = cc in none)
      place k (suc j) b (Some row) e f = known_holds (suc k) (suc j) b (sized_at k j row b e f)

      sizes : (t i : ℕ) (b : Bound) → place_entry (numbered_entry r.sizes t) i ≡ Some (Sized b) → HoldsSize p t i b
      sizes zero i b e = absurd (let none : ⊥ = cc in none)
      sizes (suc k) i b e = place k i b (slice_get r.sizes k) refl e

  -- the report is one on the program
  pub report_fits : IsReportOn p r
  report_fits = record {
    times = h.one_each;
    costs = costs_there p pivots (bounds_of p h.derivations) 1 p.rules
        (λ i x e. subst (λ (n : ℕ). rule_at p n ≡ Some x) (let z : suc i ≡ 1 + i = omega arith in z) e) r.costs h.cost_each h.costs;
    total = subst (λ (o : Option Bound). IsTrue (list_all is_some (spendings r.times r.costs)) ↔ IsSome o) (sym h.total)
        (total_known (spendings r.times r.costs));
    sizes = h.places;
  }
